-- `finding::Rows::met_number` meets its contract. Assumes nothing.
use Rattle.std.proofs.Common.{arith}
use Rattle.std.proofs.lemmas.Grind.{common_steps}
use Rattle.std.proofs.lemmas.Int.{to_z-of_z}
use Rattle.tables.specs.Tables.{met_number}
use Rattle.finding.proofs.Rows.met_number.Goals as goal

pub returns-then-k-self : goal.returns-then-k-self
unfolding met_number
returns-then-k-self c = grind (arith, to_z-of_z, common_steps)

pub returns : goal.returns
unfolding met_number
returns c = grind (arith, to_z-of_z, common_steps)
