-- `duplicates::line_naming` meets its contract. The loop seeks the word among those of the lines that are left (`SeekWalk`). Assumes nothing.
use Prim.Native.Nat.{suc, ◌-◌}
use lib.ListN.{length}
use Rattle.duplicates.specs.Words.{word_at, words_of, next_line}
use Rattle.duplicates.proofs.Seeking.{SeekWalk}
use Rattle.duplicates.proofs.line_naming.Given as goal

abbrev pub invariant-loop-sort : goal.invariant-loop-sort
invariant-loop-sort l = SeekWalk word_at (next_line l.sort l.word) l.file (next_line l.sort l.word (words_of l.file)) l.walk.state l.walk.at (suc l.walk.lines)

abbrev pub decreases-loop-sort : goal.decreases-loop-sort
decreases-loop-sort l = length l.file - l.walk.at
