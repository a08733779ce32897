-- `file_rows::show_all` is safe and ends: the head line and the two texts lie in the input, and the next record starts further on.
-- The loop's invariant: no more records were shown than bytes were passed. The measure is what is left of the input. Assumes nothing.
use Prim.Native.Nat.{◌-◌, ◌≤◌}
use lib.ListN.{length}
use Rattle.file_rows.proofs.show_all.Given as goal

abbrev pub invariant-loop-at : goal.invariant-loop-at
invariant-loop-at l = l.number ≤ l.at

abbrev pub decreases-loop-at : goal.decreases-loop-at
decreases-loop-at l = length l.input - l.at
