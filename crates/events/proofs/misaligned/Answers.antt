-- `events::misaligned` meets its contract. Assumes nothing.
use Rattle.std.proofs.Common.{arith}
use Rattle.std.proofs.lemmas.Int.{to_z-of_z}
use Rattle.signed.specs.Signed.{same_z}
use Rattle.events.specs.Align.{misaligned_at}
use Rattle.events.proofs.misaligned.Goals as goal

pub returns-in-2 : goal.returns-in-2
unfolding misaligned_at same_z
returns-in-2 c = grind (arith, to_z-of_z)

pub returns-in-3 : goal.returns-in-3
unfolding misaligned_at same_z
returns-in-3 c = grind (arith, to_z-of_z)

pub returns-in-4 : goal.returns-in-4
unfolding misaligned_at same_z
returns-in-4 c = grind (arith, to_z-of_z)

pub returns-in-5 : goal.returns-in-5
unfolding misaligned_at same_z
returns-in-5 c = grind (arith, to_z-of_z)

pub returns-in_default : goal.returns-in_default
unfolding misaligned_at same_z
returns-in_default c = grind (arith, to_z-of_z)
