-- `shape::gather` meets its contract: the digits so far, one after another. Assumes nothing.
use Rattle.shape.specs.Inside.{GatheredFrom}
use Rattle.shape.proofs.gather.Given as goal

abbrev pub invariant-loop-i : goal.invariant-loop-i
invariant-loop-i l = GatheredFrom l.text l.at l.v (record { v = l.w; stop = l.i })
