-- `repeats::line_having` meets its contract. The loop seeks the row among those of the lines that are left (`SeekWalk`). Assumes nothing.
use Prim.Native.Nat.{suc, ◌-◌}
use lib.ListN.{length}
use Rattle.file.specs.Rows.{row_at, rows_of}
use Rattle.duplicates.proofs.Seeking.{SeekWalk}
use Rattle.repeats.specs.Repeats.{next_row}
use Rattle.repeats.proofs.line_having.Given as goal

abbrev pub invariant-loop-did : goal.invariant-loop-did
invariant-loop-did l = SeekWalk row_at (next_row l.class l.id) l.file (next_row l.class l.id (rows_of l.file)) l.walk.state l.walk.at (suc l.walk.lines)

abbrev pub decreases-loop-did : goal.decreases-loop-did
decreases-loop-did l = length l.file - l.walk.at
