-- `fields::next_field` meets its contract. The loop's invariant: the word at `stop` ends where that at `start` does. Assumes nothing.
use mathlib.Core.Path.{◌≡◌}
use Rattle.fields.proofs.Places.{word_end}
use Rattle.fields.proofs.next_field.Given as goal

abbrev pub invariant-loop-stop : goal.invariant-loop-stop
invariant-loop-stop l = word_end l.line l.stop ≡ word_end l.line l.start
