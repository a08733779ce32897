-- `text::skip` meets its contract. The loop's invariant: the blanks from i on end where those from `at` on do. Assumes nothing.
use mathlib.Core.Path.{◌≡◌}
use Rattle.text.specs.Blanks.{skipped}
use Rattle.text.proofs.skip.Given as goal

abbrev pub invariant-loop-i : goal.invariant-loop-i
invariant-loop-i l = skipped l.line l.i ≡ skipped l.line l.at
