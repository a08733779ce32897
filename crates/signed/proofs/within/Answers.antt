-- `signed::within` meets its contract. Assumes nothing.
use Rattle.std.proofs.Common.{rules}
use Rattle.signed.specs.Signed.{within}
use Rattle.signed.proofs.within.Goals as goal

pub returns : goal.returns
unfolding within
returns c = search rules
