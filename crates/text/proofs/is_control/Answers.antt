-- `text::is_control` meets its contract. Assumes nothing.
use Rattle.std.proofs.Common.{arith}
use Rattle.std.proofs.lemmas.Grind.{common_steps}
use Rattle.std.proofs.lemmas.Bool.Decides.{nat_tests}
use Rattle.text.specs.Marks.{is_control}
use Rattle.text.proofs.is_control.Goals as goal

pub returns-then-b-ne9 : goal.returns-then-b-ne9
unfolding is_control
returns-then-b-ne9 c = grind (arith, common_steps, nat_tests)

pub returns-else-b-ne9 : goal.returns-else-b-ne9
unfolding is_control
returns-else-b-ne9 c = grind (arith, common_steps, nat_tests)
