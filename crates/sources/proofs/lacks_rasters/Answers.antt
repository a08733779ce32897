-- `sources::lacks_rasters` meets its contract. Assumes nothing.
use Rattle.sources.specs.Sources.{lacks_rasters}
use Rattle.sources.proofs.lacks_rasters.Goals as goal

pub returns : goal.returns
unfolding lacks_rasters
returns c = rw (← c.edition_of.ensures, ← c.own_rasters-own.ensures, ← c.site_rasters.ensures) c.is_lacking_for.ensures
