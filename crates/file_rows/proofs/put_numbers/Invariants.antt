-- `file_rows::put_numbers` is safe and ends. The loop's invariant: the output keeps its length. Assumes nothing.
use mathlib.Core.Path.{◌≡◌}
use lib.ListN.{length}
use Rattle.file_rows.proofs.put_numbers.Given as goal

abbrev pub invariant-loop-z : goal.invariant-loop-z
invariant-loop-z l = length l.out ≡ length l.initial.out
