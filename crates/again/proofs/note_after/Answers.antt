-- `again::note_after` meets its contract. Assumes nothing.
use Rattle.std.proofs.Common.{arith}
use Rattle.std.proofs.lemmas.Grind.{common_steps}
use Rattle.std.proofs.lemmas.Int.{to_z-of_z}
use Rattle.signed.specs.Signed.{same_z}
use Rattle.again.specs.Noting.{note_after}
use Rattle.again.proofs.note_after.Goals as goal

pub returns-then-greatest-id : goal.returns-then-greatest-id
unfolding note_after same_z
returns-then-greatest-id c = grind (arith, common_steps, to_z-of_z)

pub returns-else-greatest-id : goal.returns-else-greatest-id
unfolding note_after same_z
returns-else-greatest-id c = grind (arith, common_steps, to_z-of_z)
