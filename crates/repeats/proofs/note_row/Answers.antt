-- `repeats::note_row` meets its contract. Assumes nothing.
use Rattle.repeats.proofs.RowParts.{notes-none, notes-one}
use Rattle.signed.proofs.Machine.{rd-at}
use mathlib.Core.Path.{◌∙◌}
use Rattle.repeats.proofs.note_row.Goals as goal

pub returns-then-row_count-eq0 : goal.returns-then-row_count-eq0
returns-then-row_count-eq0 c = notes-none _ _ c.row_count.ensures _ c.if-row_count-eq0.true

pub returns : goal.returns
returns c = notes-one _ _ c.row_count.ensures _ c.if-row_count-eq0.false _ _ (rd-at _ c.row_class-class.type_inv ∙ c.row_class-class.ensures) (rd-at _ c.number-id.type_inv ∙ c.number-id.ensures) c.note.ensures
