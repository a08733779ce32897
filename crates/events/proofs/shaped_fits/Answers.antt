-- `events::shaped_fits` meets its contract. Assumes nothing.
use Rattle.std.proofs.Common.{arith}
use Rattle.std.proofs.lemmas.Grind.{common_steps}
use Rattle.std.proofs.lemmas.Int.{to_z-of_z}
use Rattle.events.specs.Use.{shaped_fits}
use Rattle.events.specs.Inside.{samples_fit}
use Rattle.events.proofs.shaped_fits.Goals as goal

pub returns-then-not-named_fits-clause-value : goal.returns-then-not-named_fits-clause-value
unfolding shaped_fits samples_fit
returns-then-not-named_fits-clause-value c = grind (arith, common_steps, to_z-of_z)

pub returns-clause-value : goal.returns-clause-value
unfolding shaped_fits samples_fit
returns-clause-value c = grind (arith, common_steps, to_z-of_z)
