use mathlib.Core.Path.{refl, sym, ◌∙◌}
use native.Mathlib.Omega.{arith}
use Prim.Native.Nat.{ℕ}
use Rattle.places.specs.declared.State.{State}
use Rattle.file.specs.Rows.{rows_of}
use Rattle.file.proofs.Stepping.{from-front, cut-there, gave-there, nearer, carried}
use Rattle.duplicates.proofs.Parts.{walk_start, walk-fault, walk_end}
use Rattle.repeats.proofs.RowParts.{RowWalk, row-hit, row-turn}
use Rattle.repeats.proofs.first_kept.Goals as goal

pub loop-did-init : goal.loop-did-init
unfolding rows_of
loop-did-init c =
    let a = c.args in
    from-front (λ (st : State) (at n : ℕ). RowWalk a.most.now a.parts a.part a.file.now a.set.now st at n a.set.now) _ c.walk_start-walk.ensures
    (walk_start _ _ _ _ _ _ _ _ _ refl)

pub step-requires : goal.step-requires
step-requires c = omega (arith, c.loop-did.invariant.within.number)

pub shape_of-set-then-is_fault : goal.shape_of-set-then-is_fault
shape_of-set-then-is_fault c = c.loop-did.invariant.long

pub returns-then-is_fault : goal.returns-then-is_fault
returns-then-is_fault c =
    let s = c.in-Some.ensures in
    walk-fault _ _ _ _ _ c.loop-did.invariant _ (cut-there s) _ (gave-there s) (sym c.is_fault.ensures ∙ c.if-is_fault.true)

pub shape_of-set-then-gives_again : goal.shape_of-set-then-gives_again
shape_of-set-then-gives_again c = c.gives_again.auto.set ∙ c.loop-did.invariant.long

pub returns-then-gives_again : goal.returns-then-gives_again
returns-then-gives_again c =
    let s = c.in-Some.ensures in
    row-hit _ _ _ c.loop-did.invariant _ (cut-there s) _ (gave-there s) (sym c.is_fault.ensures ∙ c.if-is_fault.false) _ c.gives_again.ensures.value c.if-gives_again.true

pub loop-did-smaller : goal.loop-did-smaller
loop-did-smaller c = nearer c.in-Some.ensures

pub loop-did-preserved : goal.loop-did-preserved
loop-did-preserved c =
    let s = c.in-Some.ensures in
    let a = c.args in
    carried s (λ (st : State) (at n : ℕ). RowWalk a.most.now a.parts a.part a.file.now a.set.now st at n c.gives_again.new.set)
    (row-turn _ _ _ c.loop-did.invariant _ (cut-there s) _ (gave-there s) (sym c.is_fault.ensures ∙ c.if-is_fault.false) _ c.gives_again.ensures.value c.if-gives_again.false
    _ c.gives_again.ensures.set_after c.gives_again.auto.set)

pub shape_of-set : goal.shape_of-set
shape_of-set c = c.loop-did.invariant.long

pub returns : goal.returns
returns c = walk_end _ _ _ _ _ c.loop-did.invariant c.in_default.ensures.0
