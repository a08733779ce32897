-- `file::row_line` meets its contract. The loop seeks the row among those of the lines that are left (`LineWalk`). Assumes nothing.
use Prim.Native.Nat.{suc, ◌-◌}
use lib.ListN.{length}
use Rattle.file.proofs.Laying.{LineWalk}
use Rattle.file.proofs.row_line.Given as goal

abbrev pub invariant-loop-did : goal.invariant-loop-did
invariant-loop-did l = LineWalk l.file l.k l.walk.state l.walk.at (suc l.walk.lines) l.left

abbrev pub decreases-loop-did : goal.decreases-loop-did
decreases-loop-did l = length l.file - l.walk.at
