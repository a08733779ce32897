-- `row_text::put_column` meets its contract: a space stands before what the column holds. Assumes nothing.
use Rattle.std.proofs.Common.{arith}
use mathlib.Core.Path.{sym, ◌∙◌}
use Rattle.output.proofs.Over.{put-none}
use Rattle.row_text.proofs.Writing.{column-none, column-some}
use Rattle.row_text.proofs.put_column.Goals as goal

pub returns-then-is_absent : goal.returns-then-is_absent
returns-then-is_absent c = column-none _ _ (sym c.is_absent.ensures ∙ c.if-is_absent.true) (put-none (omega arith) (omega arith))

pub returns : goal.returns
returns c = column-some _ _ (sym c.is_absent.ensures ∙ c.if-is_absent.false) c.put_byte-next.ensures c.put_field.ensures
