-- `blocks::longest_event` meets its contract. The loop's invariant: the longest of all is the longest so far or of those that are left. Assumes nothing.
use Rattle.blocks.proofs.Lasting.{Longest}
use Rattle.blocks.proofs.longest_event.Given as goal

abbrev pub invariant-loop-c : goal.invariant-loop-c
invariant-loop-c l = Longest l.rasters l.timing.rows.numbers.now l.timing.rows.n l.samples l.edition l.k l.longest.0 l.c
