-- `sources::own_rasters` meets its contract. Assumes nothing.
use Rattle.sources.specs.Sources.{own_rasters}
use Rattle.sources.proofs.own_rasters.Goals as goal

pub returns : goal.returns
unfolding own_rasters
returns c = rw (← c.edition_of.ensures) c.rasters.ensures
