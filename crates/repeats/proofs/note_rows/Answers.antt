use mathlib.Core.Path.{refl, sym, ◌∙◌}
use native.Mathlib.Omega.{arith}
use Prim.Native.Nat.{ℕ}
use Rattle.places.specs.declared.State.{State}
use Rattle.file.proofs.Stepping.{from-front, cut-there, gave-there, nearer, carried}
use Rattle.repeats.proofs.RowParts.{NoteWalk, note-start, note-fault, note-turn, note-end}
use Rattle.repeats.proofs.note_rows.Goals as goal

pub loop-did-init : goal.loop-did-init
loop-did-init c =
    let a = c.args in
    from-front (λ (st : State) (at n : ℕ). NoteWalk a.file.now a.most.now st at n a.most.now) _ c.walk_start-walk.ensures (note-start _ _ _ refl)

pub step-requires : goal.step-requires
step-requires c = omega (arith, c.loop-did.invariant.within.number)

pub shape_of-most-then-is_fault : goal.shape_of-most-then-is_fault
shape_of-most-then-is_fault c = c.loop-did.invariant.long

pub returns-then-is_fault : goal.returns-then-is_fault
returns-then-is_fault c =
    let s = c.in-Some.ensures in
    note-fault c.loop-did.invariant _ (cut-there s) _ (gave-there s) (sym c.is_fault.ensures ∙ c.if-is_fault.true)

pub loop-did-smaller : goal.loop-did-smaller
loop-did-smaller c = nearer c.in-Some.ensures

pub loop-did-preserved : goal.loop-did-preserved
loop-did-preserved c =
    let s = c.in-Some.ensures in
    let a = c.args in
    carried s (λ (st : State) (at n : ℕ). NoteWalk a.file.now a.most.now st at n c.note_row.new.most)
    (note-turn c.loop-did.invariant _ (cut-there s) _ (gave-there s) (sym c.is_fault.ensures ∙ c.if-is_fault.false) _ c.note_row.ensures c.note_row.auto.most)

pub shape_of-most : goal.shape_of-most
shape_of-most c = c.loop-did.invariant.long

pub returns : goal.returns
returns c = note-end c.loop-did.invariant c.in_default.ensures.0
