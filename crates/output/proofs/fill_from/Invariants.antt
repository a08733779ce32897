-- `output::fill_from` meets its contract. The loop's invariant: what is filled from i on is what was lent filled from the start on. Assumes nothing.
use Rattle.output.proofs.Clear.{Clearing}
use Rattle.output.proofs.fill_from.Given as goal

abbrev pub invariant-loop-i : goal.invariant-loop-i
invariant-loop-i g l = Clearing l.value l.initial.table l.from l.table l.i
