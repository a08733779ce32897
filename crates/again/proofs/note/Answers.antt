-- `again::note` meets its contract. Assumes nothing.
use Rattle.std.proofs.Common.{arith, ap, ap₂, ◌∙◌}
use Rattle.signed.proofs.Machine.{rd-at, rd-is}
use Rattle.again.specs.Noting.{place_of, note_after}
use Rattle.again.proofs.Noting.{note-beyond, note-there}
use Rattle.again.proofs.note.Goals as goal

pub returns-then-at-most : goal.returns-then-at-most
returns-then-at-most c =
    let place = c.place_of-at.ensures ∙ ap place_of (rd-is c.ranges.class) in
    note-there _ _ _ _ place _ (rd-at _ c.note_after.type_inv ∙ c.note_after.ensures ∙ ap₂ note_after (rd-at _ (omega arith)) (rd-is c.ranges.id))

pub returns-else-at-most : goal.returns-else-at-most
returns-else-at-most c = note-beyond _ _ _ _ (c.place_of-at.ensures ∙ ap place_of (rd-is c.ranges.class)) c.if-at-most.false
