-- `again::is_open` meets its contract. Assumes nothing.
use Rattle.std.proofs.Common.{arith}
use Rattle.std.proofs.lemmas.Grind.{common_steps}
use Rattle.std.proofs.lemmas.Int.{to_z-of_z}
use Rattle.signed.specs.Signed.{same_z}
use Rattle.again.specs.Noting.{is_open}
use Rattle.again.proofs.is_open.Goals as goal

pub returns-then-most-at : goal.returns-then-most-at
unfolding is_open same_z
returns-then-most-at c = grind (arith, common_steps, to_z-of_z)

pub returns-else-most-at : goal.returns-else-most-at
unfolding is_open same_z
returns-else-most-at c = grind (arith, common_steps, to_z-of_z)
