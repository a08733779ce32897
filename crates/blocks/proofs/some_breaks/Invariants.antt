-- `blocks::some_breaks` meets its contract. The loop's invariant: a number breaks if one of those that are left does. Assumes nothing.
use Rattle.blocks.proofs.Asked.{Asking}
use Rattle.blocks.proofs.some_breaks.Given as goal

abbrev pub invariant-loop-number : goal.invariant-loop-number
invariant-loop-number l = Asking l.edition l.rasters l.timing.rows.numbers.now l.timing.rows.n l.samples l.k l.cap.0 l.number
