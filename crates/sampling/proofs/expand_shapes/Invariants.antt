-- `sampling::expand_shapes` meets its contract. The loop expands the rows that are left (`Expanding`). Assumes nothing.
use Rattle.sampling.proofs.Laying.{Expanding}
use Rattle.sampling.proofs.expand_shapes.Given as goal

abbrev pub invariant-loop-k : goal.invariant-loop-k
invariant-loop-k l = Expanding l.edition l.file l.rows l.n l.initial.samples l.samples l.walk l.k
