-- `repeats::note_rows` meets its contract. The loop goes from line to line, and notes the rows (`NoteWalk`). Assumes nothing.
use Prim.Native.Nat.{suc, ◌-◌}
use lib.ListN.{length}
use Rattle.repeats.proofs.RowParts.{NoteWalk}
use Rattle.repeats.proofs.note_rows.Given as goal

abbrev pub invariant-loop-did : goal.invariant-loop-did
invariant-loop-did l = NoteWalk l.file l.initial.most l.walk.state l.walk.at (suc l.walk.lines) l.most

abbrev pub decreases-loop-did : goal.decreases-loop-did
decreases-loop-did l = length l.file - l.walk.at
