-- `lengths::micros` meets its contract. Assumes nothing.
use Rattle.std.proofs.Common.{rules}
use Rattle.lengths.specs.Lengths.{micros_at}
use Rattle.lengths.proofs.micros.Goals as goal

pub returns : goal.returns
unfolding micros_at
returns c = search rules
