-- `lengths::shaped_length` meets its contract. Assumes nothing.
use Rattle.std.proofs.Common.{arith}
use Rattle.unit.proofs.Exact.{capped-plus}
use Rattle.lengths.specs.Lengths.{shaped_length}
use Rattle.lengths.proofs.shaped_length.Goals as goal

pub returns : goal.returns
unfolding shaped_length
returns c = grind (arith, capped-plus)
