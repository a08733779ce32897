-- `file::scan_marked` meets its contract. The loop lays the rows of the lines that are left, and notes where sections begin (`MarkedWalk`). Assumes nothing.
use Prim.Native.Nat.{suc, ◌-◌}
use lib.ListN.{length}
use Rattle.file.proofs.Marking.{MarkedWalk}
use Rattle.file.proofs.scan_marked.Given as goal

abbrev pub invariant-loop-did : goal.invariant-loop-did
invariant-loop-did l = MarkedWalk l.file l.initial.rows l.rows l.names l.shapes l.walk.state l.walk.at (suc l.walk.lines) l.used

abbrev pub decreases-loop-did : goal.decreases-loop-did
decreases-loop-did l = length l.file - l.walk.at
