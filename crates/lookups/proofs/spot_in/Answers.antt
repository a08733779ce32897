-- `lookups::spot_in` meets its contract. Assumes nothing.
use Rattle.lookups.proofs.Spots.{spot-some, spot-none}
use Rattle.lookups.proofs.spot_in.Goals as goal

pub returns-then-part : goal.returns-then-part
returns-then-part c = spot-none _ _ c.if-part.true

pub returns : goal.returns
returns c = spot-some _ _ c.if-part.false
