-- `needs::site_rasters` meets its contract. Assumes nothing.
use Rattle.needs.proofs.Needing.{site-alone}
use mathlib.Core.Path.{◌∙◌}
use Rattle.needs.proofs.site_rasters.Goals as goal

pub returns : goal.returns
returns c = c.rasters.ensures ∙ site-alone _
