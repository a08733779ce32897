-- `said::put_if` meets its contract. Assumes nothing.
use Rattle.std.proofs.Common.{arith}
use Rattle.output.proofs.Over.{put-none}
use Rattle.said.proofs.Saying.{line_of, no_line}
use Rattle.said.proofs.put_if.Goals as goal

pub returns-then-is_of_form : goal.returns-then-is_of_form
returns-then-is_of_form c = rw (← line_of _ _ _ _ _ _ _ c.is_of_form.ensures c.if-is_of_form.true _ c.said_row-row.ensures) c.put_line.ensures

pub returns : goal.returns
returns c = rw (← no_line _ _ _ _ _ _ _ c.is_of_form.ensures c.if-is_of_form.false) (put-none (omega arith) (omega arith))
