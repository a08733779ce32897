-- `tables::row_class` meets its contract: each kind by its own arm. Assumes nothing.
use Rattle.std.proofs.Common.{arith}
use Rattle.std.proofs.lemmas.Grind.{common_steps}
use Rattle.std.proofs.lemmas.Int.{to_z-of_z}
use Rattle.signed.specs.Signed.{same_z}
use Rattle.tables.specs.Tables.{class_of, class_at}
use Rattle.tables.proofs.row_class.Goals as goal

pub returns-in-4 : goal.returns-in-4
unfolding class_of class_at same_z
returns-in-4 c = grind (arith, common_steps, to_z-of_z)

pub returns-then-number-eq1 : goal.returns-then-number-eq1
unfolding class_of class_at same_z
returns-then-number-eq1 c = grind (arith, common_steps, to_z-of_z)

pub returns-else-number-eq1 : goal.returns-else-number-eq1
unfolding class_of class_at same_z
returns-else-number-eq1 c = grind (arith, common_steps, to_z-of_z)

pub returns-in_default : goal.returns-in_default
unfolding class_of class_at same_z
returns-in_default c = grind (arith, common_steps, to_z-of_z)
