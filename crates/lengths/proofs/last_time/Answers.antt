-- `lengths::last_time` meets its contract. Assumes nothing.
use Rattle.std.proofs.Common.{rules}
use Rattle.lengths.specs.Lengths.{last_time}
use Rattle.lengths.proofs.last_time.Goals as goal

pub returns : goal.returns
unfolding last_time
returns c = search rules
