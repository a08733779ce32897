-- `sources::is_lacking` meets its contract. Assumes nothing.
use Rattle.sources.specs.Sources.{lacking_for}
use Rattle.sources.proofs.Asking.{not-due, due}
use Rattle.sources.proofs.is_lacking.Goals as goal

pub returns-then-is_below : goal.returns-then-is_below
unfolding lacking_for
returns-then-is_below c = not-due _ c.is_below.ensures c.if-is_below.true

pub returns : goal.returns
unfolding lacking_for
returns c = due c.is_below.ensures c.if-is_below.false c.lacks_rasters.ensures
