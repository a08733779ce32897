-- `tables::number` meets its contract. Assumes nothing.
use Rattle.std.proofs.Common.{arith}
use Rattle.std.proofs.lemmas.Grind.{common_steps}
use Rattle.std.proofs.lemmas.Int.{to_z-of_z}
use Rattle.tables.specs.Tables.{number_at}
use Rattle.tables.proofs.number.Goals as goal

pub returns-then-k-rows : goal.returns-then-k-rows
unfolding number_at
returns-then-k-rows c = grind (arith, common_steps, to_z-of_z)

pub returns : goal.returns
unfolding number_at
returns c = grind (arith, common_steps, to_z-of_z)
