-- `rules::fill_lengths` meets its contract. The loop's invariant: what is left to fill gives the whole table. Assumes nothing.
use Rattle.rules.proofs.Filling.{Filling}
use Rattle.rules.proofs.fill_lengths.Given as goal

abbrev pub invariant-loop-k : goal.invariant-loop-k
invariant-loop-k l = Filling l.edition l.rasters l.initial.rows l.n l.samples l.rows l.k
