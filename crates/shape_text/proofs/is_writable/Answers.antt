-- `shape_text::is_writable` meets its contract. Assumes nothing.
use Rattle.std.proofs.Common.{arith}
use Rattle.std.proofs.lemmas.Grind.{common_steps}
use Rattle.std.proofs.lemmas.Bool.Decides.{nat_tests}
use Rattle.shape_text.specs.Written.{is_writable}
use Rattle.shape_text.proofs.is_writable.Goals as goal

pub returns-then-samples-le-MOST : goal.returns-then-samples-le-MOST
unfolding is_writable
returns-then-samples-le-MOST c = grind (arith, common_steps, nat_tests)

pub returns-else-samples-le-MOST : goal.returns-else-samples-le-MOST
unfolding is_writable
returns-else-samples-le-MOST c = grind (arith, common_steps, nat_tests)
