-- `again::first_again` meets its contract. Assumes nothing.
use Rattle.again.proofs.Asking.{none-again}
use mathlib.Core.Path.{sym, ◌∙◌}
use Rattle.again.proofs.first_again.Goals as goal

pub returns-then-all_ascend : goal.returns-then-all_ascend
returns-then-all_ascend c = none-again _ _ _ c.note_rows.ensures (sym c.all_ascend.ensures ∙ c.if-all_ascend.true)
