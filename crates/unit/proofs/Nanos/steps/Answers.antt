-- `unit::Nanos::steps` meets its contract. Assumes nothing.
use Rattle.std.proofs.Common.{arith}
use Rattle.std.proofs.lemmas.Grind.{common_steps}
use Rattle.unit.specs.Time.{on_raster}
use Rattle.unit.proofs.Nanos.steps.Goals as goal

pub returns-then-raster-eq0 : goal.returns-then-raster-eq0
unfolding on_raster
returns-then-raster-eq0 c = grind (arith, common_steps)

pub returns : goal.returns
unfolding on_raster
returns c = grind (arith, common_steps)
