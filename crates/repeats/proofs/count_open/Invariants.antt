-- `repeats::count_open` meets its contract. The loop counts no more rows than lines. Assumes nothing.
use Prim.Native.Nat.{suc, ◌-◌}
use lib.ListN.{length}
use Prim.Native.Nat.{◌≤◌}
use Rattle.file.proofs.Walking.{Within}
use Rattle.repeats.proofs.count_open.Given as goal

abbrev pub invariant-loop-did : goal.invariant-loop-did
invariant-loop-did l = Within l.file l.walk.at (suc l.walk.lines) × (l.count ≤ l.walk.lines)

abbrev pub decreases-loop-did : goal.decreases-loop-did
decreases-loop-did l = length l.file - l.walk.at
