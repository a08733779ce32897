-- `decimals::stop_at` meets its contract: by the byte. Assumes nothing.
use Rattle.std.proofs.Common.{arith}
use Rattle.std.proofs.lemmas.Grind.{common_steps}
use Rattle.std.proofs.lemmas.Bool.Decides.{nat_tests}
use Rattle.decimals.specs.Inside.{stop_of}
use Rattle.decimals.proofs.stop_at.Goals as goal

pub returns-in-46 : goal.returns-in-46
unfolding stop_of
returns-in-46 c = grind (arith, common_steps, nat_tests)

pub returns-in-101 : goal.returns-in-101
unfolding stop_of
returns-in-101 c = grind (arith, common_steps, nat_tests)

pub returns-in_default : goal.returns-in_default
unfolding stop_of
returns-in_default c = grind (arith, common_steps, nat_tests)
