-- `rules::length_number` meets its contract. Assumes nothing.
use Rattle.std.proofs.Common.{arith}
use Rattle.std.proofs.lemmas.Grind.{common_steps}
use Rattle.std.proofs.lemmas.Int.{to_z-of_z}
use Rattle.rules.specs.Filled.{length_number}
use Rattle.rules.proofs.length_number.Goals as goal

pub returns : goal.returns
unfolding length_number
returns c = grind (arith, common_steps, to_z-of_z)
