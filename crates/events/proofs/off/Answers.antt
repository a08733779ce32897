-- `events::off` meets its contract. Assumes nothing.
use Rattle.std.proofs.Common.{arith}
use Rattle.std.proofs.lemmas.Grind.{common_steps}
use Rattle.unit.specs.Time.{on_raster}
use Rattle.events.specs.Align.{is_off}
use Rattle.events.proofs.off.Goals as goal

pub returns : goal.returns
unfolding is_off on_raster
returns c = grind (arith, common_steps)
