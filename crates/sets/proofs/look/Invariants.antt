-- `sets::look` meets its contract. The loop's invariant: what is left of the way meets what the whole meets (`Looking`). Assumes nothing.
use Rattle.sets.proofs.Ways.{Looking}
use Rattle.sets.proofs.look.Given as goal

abbrev pub invariant-loop-j : goal.invariant-loop-j
invariant-loop-j l = Looking l.set l.key l.j
