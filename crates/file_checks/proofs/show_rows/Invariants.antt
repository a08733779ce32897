-- `file_checks::show_rows` is safe and ends: a row that the table has room for lies in it.
-- Nothing has to hold from turn to turn. Assumes nothing.
use Rattle.file_checks.proofs.show_rows.Given as goal

abbrev pub invariant-loop-k : goal.invariant-loop-k
invariant-loop-k l = Unit {0}
