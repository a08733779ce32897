-- `file_checks::check_rules` is safe and ends. Nothing has to hold from turn to turn. Assumes nothing.
use Rattle.file_checks.proofs.check_rules.Given as goal

abbrev pub invariant-loop-i : goal.invariant-loop-i
invariant-loop-i l = Unit {0}
