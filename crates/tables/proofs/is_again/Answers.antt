-- `tables::is_again` meets its contract. Assumes nothing.
use Rattle.std.proofs.Common.{arith}
use Rattle.std.proofs.lemmas.Grind.{common_steps}
use Rattle.std.proofs.lemmas.Int.{to_z-of_z}
use Rattle.tables.specs.Tables.{is_again}
use Rattle.tables.proofs.is_again.Goals as goal

pub returns : goal.returns
unfolding is_again
returns c = grind (arith, common_steps, to_z-of_z)
