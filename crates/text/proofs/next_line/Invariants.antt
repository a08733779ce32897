-- `text::next_line` meets its contract. The loop's invariant: no LF stands between `at` and i. Assumes nothing.
use Rattle.text.proofs.Places.{Sought}
use Rattle.text.proofs.next_line.Given as goal

abbrev pub invariant-loop-i : goal.invariant-loop-i
invariant-loop-i l = Sought l.text l.at l.i
