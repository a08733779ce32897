-- `signed::is_negative` meets its contract. Assumes nothing.
use Rattle.signed.proofs.Machine.{below-zero}
use Rattle.signed.proofs.is_negative.Goals as goal

pub returns : goal.returns
returns c = below-zero c.ranges.z
