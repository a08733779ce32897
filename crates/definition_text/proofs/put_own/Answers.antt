use mathlib.Core.Path.{refl, sym, ◌∙◌}
use native.Mathlib.Omega.{arith}
use Prim.Native.Nat.{ℕ}
use Rattle.places.specs.declared.State.{State}
use Rattle.file.proofs.Stepping.{from-front, cut-there, gave-there, nearer, carried}
use Rattle.definition_text.proofs.Putting.{OwnPut, own-start, own-length, own-end, own-fault, own_turn}
use Rattle.definition_text.proofs.put_own.Goals as goal

pub loop-line-init : goal.loop-line-init
loop-line-init c =
    let a = c.args in
    from-front (OwnPut a.out.now a.at a.file.now a.at a.out.now) _ c.walk_start-walk.ensures (own-start _ _ _ _ refl (omega arith) (omega arith))

pub step-requires : goal.step-requires
step-requires c = omega (arith, c.loop-line.invariant.within.number)

pub shape_of-out-then-is_fault : goal.shape_of-out-then-is_fault
shape_of-out-then-is_fault c = own-length c.loop-line.invariant

pub returns-then-is_fault : goal.returns-then-is_fault
returns-then-is_fault c =
    let s = c.in-Some.ensures in
    own-fault c.loop-line.invariant (cut-there s) (gave-there s) (sym c.is_fault.ensures ∙ c.if-is_fault.true)

pub loop-line-smaller : goal.loop-line-smaller
loop-line-smaller c = nearer c.in-Some.ensures

pub loop-line-preserved : goal.loop-line-preserved
loop-line-preserved c =
    let s = c.in-Some.ensures in
    let a = c.args in
    carried s (OwnPut a.out.now a.at a.file.now c.put_found-place.result c.put_found-place.new.out)
    (own_turn c.loop-line.invariant (cut-there s) (gave-there s) (sym c.is_fault.ensures ∙ c.if-is_fault.false) (rw s.cut at c.put_found-place.ensures))

pub shape_of-out : goal.shape_of-out
shape_of-out c = own-length c.loop-line.invariant

pub returns : goal.returns
returns c = own-end c.loop-line.invariant c.in_default.ensures.0
