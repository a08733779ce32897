use mathlib.Core.Path.{refl, sym, ◌∙◌}
use native.Mathlib.Omega.{arith}
use Rattle.file.proofs.Stepping.{from-front, cut-there, whole-there, gave-there, nearer, carried, words-end}
use Rattle.definitions.proofs.Beyond.{place-left}
use Rattle.definitions.proofs.Placing.{PlaceWalk, place-start, place-line, place-turn, place_end, place-fault, place-hit, place-miss}
use Rattle.definitions.proofs.file_place.Goals as goal

pub loop-walk-init : goal.loop-walk-init
loop-walk-init c = from-front (PlaceWalk c.args.file.now c.args.key.now) _ c.walk_start-walk.ensures (place-start _ _ _ refl)

pub step-requires : goal.step-requires
step-requires c = omega (arith, c.loop-walk.invariant.within.number)

pub returns-in_default : goal.returns-in_default
returns-in_default c = place_end c.loop-walk.invariant c.in_default.ensures.0

pub returns-then-is_fault : goal.returns-then-is_fault
returns-then-is_fault c =
    let s = c.in-Some.ensures in
    place-fault _ _ _ _ _ _ (place-line c.loop-walk.invariant (cut-there s) (whole-there s) (gave-there s)) (sym c.is_fault.ensures ∙ c.if-is_fault.true)

pub value_place-requires : goal.value_place-requires
value_place-requires c =
    let s = c.in-Some.ensures in
    let e = words-end s in
    record { at_le_stop = omega arith; stop_in_bounds = omega (arith, (cut-there s).within) }

pub returns-then-defines : goal.returns-then-defines
returns-then-defines c =
    let s = c.in-Some.ensures in
    rw (words-end s) at c.value_place.ensures
    ∙ place-hit _ _ _ _ _ _ (place-line c.loop-walk.invariant (cut-there s) (whole-there s) (gave-there s)) (sym c.is_fault.ensures ∙ c.if-is_fault.false)
    (rw s.cut at (sym c.defines.ensures ∙ c.if-defines.true))

pub loop-walk-smaller : goal.loop-walk-smaller
loop-walk-smaller c = nearer c.in-Some.ensures

pub loop-walk-preserved : goal.loop-walk-preserved
loop-walk-preserved c =
    let k = c.loop-walk.invariant in
    let s = c.in-Some.ensures in
    carried s (PlaceWalk c.args.file.now c.args.key.now)
    (place-turn k (cut-there s) (whole-there s) (gave-there s)
    (place-miss _ _ _ _ _ _ (place-line k (cut-there s) (whole-there s) (gave-there s)) (sym c.is_fault.ensures ∙ c.if-is_fault.false) (rw s.cut at (sym c.defines.ensures ∙ c.if-defines.false))))

pub returns : goal.returns
returns c = place-left c.loop-walk.invariant (sym c.left_definitions.ensures ∙ c.loop-walk-test.false)
