-- `repeats::first_kept` meets its contract. The loop goes from line to line, and keeps the rows that are asked for (`RowWalk`). Assumes nothing.
use Prim.Native.Nat.{suc, ◌-◌}
use lib.ListN.{length}
use Rattle.repeats.proofs.RowParts.{RowWalk}
use Rattle.repeats.proofs.first_kept.Given as goal

abbrev pub invariant-loop-did : goal.invariant-loop-did
invariant-loop-did l = RowWalk l.most l.parts l.part l.file l.initial.set l.walk.state l.walk.at (suc l.walk.lines) l.set

abbrev pub decreases-loop-did : goal.decreases-loop-did
decreases-loop-did l = length l.file - l.walk.at
