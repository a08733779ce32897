-- `finding::note_row` meets its contract. Assumes nothing.
use Rattle.std.proofs.Common.{arith}
use Rattle.std.proofs.lemmas.Grind.{common_steps}
use Rattle.std.proofs.lemmas.Int.{to_z-of_z}
use Rattle.signed.specs.Signed.{same_z}
use Rattle.finding.specs.Hints.{noted_row}
use Rattle.finding.proofs.note_row.Goals as goal

pub returns-then-class-eq-BLOCK : goal.returns-then-class-eq-BLOCK
unfolding noted_row same_z
returns-then-class-eq-BLOCK c = grind arith

pub returns : goal.returns
unfolding noted_row same_z
returns c = grind (arith, common_steps, to_z-of_z)
