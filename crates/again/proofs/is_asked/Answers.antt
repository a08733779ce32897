-- `again::is_asked` meets its contract. Assumes nothing.
use Rattle.std.proofs.Common.{arith}
use Rattle.std.proofs.lemmas.Grind.{common_steps}
use Rattle.std.proofs.lemmas.Int.{to_z-of_z}
use Rattle.again.specs.Inside.{is_asked}
use Rattle.again.proofs.is_asked.Goals as goal

pub returns-then-is_open : goal.returns-then-is_open
unfolding is_asked
returns-then-is_open c = grind (arith, common_steps, to_z-of_z)

pub returns-else-is_open : goal.returns-else-is_open
unfolding is_asked
returns-else-is_open c = grind (arith, common_steps, to_z-of_z)
