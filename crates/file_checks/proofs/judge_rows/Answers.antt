-- `file_checks::judge_rows` is safe and ends. Assumes nothing.
use Rattle.tables.proofs.Found.{first-none}
use borrow.Author.Rules.{rules}
use Rattle.file_checks.proofs.judge_rows.Goals as goal

pub check_shapes-requires : goal.check_shapes-requires
check_shapes-requires c = record { file_value = search rules; shapes_value = search rules; none_again = first-none _ _ c.first_again-again.ensures c.if-again-rows.false }

pub invariant_of-told : goal.invariant_of-told
invariant_of-told c = record { once = first-none _ _ c.first_again-again.ensures c.if-again-rows.false }

pub fill_lengths-requires : goal.fill_lengths-requires
fill_lengths-requires c = first-none _ _ c.first_again-again.ensures c.if-again-rows.false
