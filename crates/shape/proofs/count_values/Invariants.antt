-- `shape::count_values` meets its contract. The loop counts (`Counting`); a value takes a byte at least, so the count fits. Assumes nothing.
use Prim.Native.Nat.{◌-◌}
use lib.ListN.{length}
use Rattle.shape.proofs.Counting.{Counting}
use Rattle.shape.proofs.count_values.Given as goal

abbrev pub invariant-loop-at : goal.invariant-loop-at
invariant-loop-at l = Counting l.stored l.at l.n

abbrev pub decreases-loop-at : goal.decreases-loop-at
decreases-loop-at l = length l.stored - l.at
