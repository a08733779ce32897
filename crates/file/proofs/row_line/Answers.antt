use mathlib.Core.Path.{refl, sym, ◌∙◌}
use native.Mathlib.Omega.{arith}
use Prim.Native.Nat.{ℕ, ◌-◌}
use Rattle.places.specs.declared.State.{State}
use Rattle.file.proofs.Stepping.{from-front, cut-there, gave-there, nearer, carried}
use Rattle.file.proofs.Laying.{LineWalk, seek-start, seek-fault, seek_found, seek-turn, seek-end}
use Rattle.file.proofs.row_line.Goals as goal

pub loop-did-init : goal.loop-did-init
loop-did-init c = from-front (λ (st : State) (at n : ℕ). LineWalk c.args.file.now c.args.k st at n c.args.k) _ c.walk_start-walk.ensures (seek-start _ _ _ refl)

pub read-requires : goal.read-requires
read-requires c = omega (arith, c.loop-did.invariant.within.number)

pub returns-then-is_fault : goal.returns-then-is_fault
returns-then-is_fault c =
    let s = c.in-Some.ensures in
    seek-fault _ _ _ _ _ _ c.loop-did.invariant _ (cut-there s) _ (gave-there s) (sym c.is_fault.ensures ∙ c.if-is_fault.true)

pub returns-then-left-count : goal.returns-then-left-count
returns-then-left-count c =
    let s = c.in-Some.ensures in
    seek_found _ _ _ _ _ _ c.loop-did.invariant _ (cut-there s) _ (gave-there s) (sym c.is_fault.ensures ∙ c.if-is_fault.false) _ c.row_count-count.ensures c.if-left-count.true

pub loop-did-smaller : goal.loop-did-smaller
loop-did-smaller c = nearer c.in-Some.ensures

pub loop-did-preserved : goal.loop-did-preserved
loop-did-preserved c =
    let s = c.in-Some.ensures in
    carried s (λ (st : State) (at n : ℕ). LineWalk c.args.file.now c.args.k st at n (c.loop-did.left - c.row_count-count.result))
    (seek-turn _ _ _ _ _ _ c.loop-did.invariant _ (cut-there s) _ (gave-there s) (sym c.is_fault.ensures ∙ c.if-is_fault.false) _ c.row_count-count.ensures c.if-left-count.false)

pub returns : goal.returns
returns c = seek-end _ _ _ _ _ _ c.loop-did.invariant c.in_default.ensures.0
