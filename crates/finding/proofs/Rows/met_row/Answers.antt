-- `finding::Rows::met_row` meets its contract. Assumes nothing.
use Rattle.std.proofs.Common.{arith}
use Rattle.std.proofs.lemmas.Int.{to_z-of_z}
use Rattle.signed.specs.Signed.{same_z}
use Rattle.tables.specs.Tables.{met_row}
use Rattle.finding.proofs.Rows.met_row.Goals as goal

pub returns-then-id-eq0 : goal.returns-then-id-eq0
unfolding met_row same_z
returns-then-id-eq0 c = grind arith

pub returns : goal.returns
unfolding met_row same_z
returns c = grind (arith, to_z-of_z)
