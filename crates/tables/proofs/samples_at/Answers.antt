-- `tables::samples_at` meets its contract. Assumes nothing.
use Rattle.std.proofs.Common.{arith}
use Rattle.std.proofs.lemmas.Int.{to_z-of_z}
use Rattle.tables.specs.Tables.{samples_at}
use Rattle.tables.proofs.samples_at.Goals as goal

pub returns : goal.returns
unfolding samples_at
returns c = grind (arith, to_z-of_z)
