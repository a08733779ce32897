-- `fields::trim` meets its contract. The loop's invariant: with what is left from i on, the text ends where that from `start` on does. Assumes nothing.
use mathlib.Core.Path.{◌≡◌}
use Rattle.fields.proofs.Places.{body_end}
use Rattle.fields.proofs.trim.Given as goal

abbrev pub invariant-loop-i : goal.invariant-loop-i
invariant-loop-i l = body_end l.line l.stop l.i ≡ body_end l.line l.start l.start
