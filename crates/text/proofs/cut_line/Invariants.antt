-- `text::cut_line` meets its contract. The loop's invariant: the line is cut from i on as it is from `at` on. Assumes nothing.
use mathlib.Core.Path.{◌≡◌}
use Rattle.text.specs.Marks.{cut_at}
use Rattle.text.proofs.cut_line.Given as goal

abbrev pub invariant-loop-i : goal.invariant-loop-i
invariant-loop-i l = cut_at l.text l.i ≡ cut_at l.text l.at
