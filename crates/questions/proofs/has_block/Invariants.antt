-- `questions::has_block` meets its contract. The loop seeks a block among the rows of the lines that are left (`BlockWalk`). Assumes nothing.
use Prim.Native.Nat.{suc, ◌-◌}
use lib.ListN.{length}
use Rattle.questions.proofs.Blocks.{BlockWalk}
use Rattle.questions.proofs.has_block.Given as goal

abbrev pub invariant-loop-did : goal.invariant-loop-did
invariant-loop-did l = BlockWalk l.file l.walk.state l.walk.at (suc l.walk.lines)

abbrev pub decreases-loop-did : goal.decreases-loop-did
decreases-loop-did l = length l.file - l.walk.at
