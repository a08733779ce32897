-- `shape_text::run_end` meets its contract. The loop's invariant: the differences from i to before j are equal, and are put before the runs from j on. Assumes nothing.
use Rattle.shape_text.proofs.Runs.{Running}
use Rattle.shape_text.proofs.run_end.Given as goal

abbrev pub invariant-loop-j : goal.invariant-loop-j
invariant-loop-j l = Running l.samples l.i l.j
