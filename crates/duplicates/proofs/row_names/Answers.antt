-- `duplicates::row_names` meets its contract. Assumes nothing.
use Rattle.std.proofs.Common.{arith}
use Rattle.std.proofs.lemmas.Grind.{common_steps}
use Rattle.std.proofs.lemmas.Int.{to_z-of_z}
use Rattle.signed.specs.Signed.{same_z}
use Rattle.duplicates.specs.Words.{row_names}
use Rattle.duplicates.proofs.row_names.Goals as goal

pub returns-then-kind-eq-EXTENSION : goal.returns-then-kind-eq-EXTENSION
unfolding row_names same_z
returns-then-kind-eq-EXTENSION c = grind (arith, common_steps, to_z-of_z)

pub returns : goal.returns
unfolding row_names same_z
returns c = grind (arith, common_steps, to_z-of_z)
