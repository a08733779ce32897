-- `repeats::row_again` meets its contract. Assumes nothing.
use Rattle.repeats.proofs.RowParts.{none-twice}
use mathlib.Core.Path.{sym, ◌∙◌}
use Rattle.repeats.proofs.row_again.Goals as goal

pub returns-then-all_ascend : goal.returns-then-all_ascend
returns-then-all_ascend c = none-twice _ _ c.note_rows.ensures (sym c.all_ascend.ensures ∙ c.if-all_ascend.true)
