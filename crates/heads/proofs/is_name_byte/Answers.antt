-- `heads::is_name_byte` meets its contract. Assumes nothing.
use Rattle.std.proofs.Common.{arith}
use Rattle.std.proofs.lemmas.Grind.{common_steps}
use Rattle.std.proofs.lemmas.Bool.Decides.{nat_tests}
use Rattle.heads.specs.Heads.{is_name_byte}
use Rattle.heads.proofs.is_name_byte.Goals as goal

pub returns-then-is_ascii_alphanumeric : goal.returns-then-is_ascii_alphanumeric
unfolding is_name_byte
returns-then-is_ascii_alphanumeric c = grind (arith, common_steps, nat_tests)

pub returns-else-is_ascii_alphanumeric : goal.returns-else-is_ascii_alphanumeric
unfolding is_name_byte
returns-else-is_ascii_alphanumeric c = grind (arith, common_steps, nat_tests)
