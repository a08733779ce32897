-- `events::rf_fits` meets its contract. Assumes nothing.
use Rattle.std.proofs.Common.{arith}
use Rattle.std.proofs.lemmas.Grind.{common_steps}
use Rattle.std.proofs.lemmas.Int.{to_z-of_z}
use Rattle.events.specs.Use.{rf_fits}
use Rattle.events.proofs.rf_fits.Goals as goal

pub returns-then-magnitude-phase-clause-value : goal.returns-then-magnitude-phase-clause-value
unfolding rf_fits
returns-then-magnitude-phase-clause-value c = grind (arith, common_steps, to_z-of_z)

pub returns-clause-value : goal.returns-clause-value
unfolding rf_fits
returns-clause-value c = grind (arith, common_steps, to_z-of_z)
