-- `events::time_fits` meets its contract. Assumes nothing.
use Rattle.std.proofs.Common.{arith}
use Rattle.std.proofs.lemmas.Grind.{common_steps}
use Rattle.std.proofs.lemmas.Int.{to_z-of_z}
use Rattle.signed.specs.Signed.{same_z}
use Rattle.events.specs.Use.{time_fits}
use Rattle.events.specs.Inside.{samples_fit}
use Rattle.events.proofs.time_fits.Goals as goal

pub returns-then-id-eq0-clause-value : goal.returns-then-id-eq0-clause-value
unfolding time_fits same_z
returns-then-id-eq0-clause-value c = grind (arith, common_steps)

pub returns-then-samples_of-count-clause-value : goal.returns-then-samples_of-count-clause-value
unfolding time_fits same_z
returns-then-samples_of-count-clause-value c = grind (arith, common_steps, to_z-of_z)

pub returns-clause-value : goal.returns-clause-value
unfolding time_fits samples_fit same_z
returns-clause-value c = grind (arith, common_steps, to_z-of_z)
