-- `finding::Rows::find_once` meets its contract. Assumes nothing.
use Rattle.std.proofs.Common.{arith}
use Rattle.std.proofs.lemmas.Int.{to_z-of_z}
use Rattle.tables.proofs.Found.{row-once}
use Rattle.finding.proofs.Rows.find_once.Goals as goal

pub returns-then-k-self : goal.returns-then-k-self
returns-then-k-self c = grind (arith, to_z-of_z, row-once)
