-- `duplicates::count_names` meets its contract. The loop counts no more than it passes. Assumes nothing.
use Prim.Native.Nat.{◌≤◌}
use Rattle.duplicates.proofs.count_names.Given as goal

abbrev pub invariant-loop-k : goal.invariant-loop-k
invariant-loop-k l = l.count ≤ l.k
