-- `chains::loops` meets its contract. Assumes nothing.
use Rattle.std.proofs.Common.{arith}
use Rattle.std.proofs.lemmas.Grind.{common_steps}
use Rattle.signed.specs.Signed.{same_z}
use Rattle.chains.specs.Chains.{loops_at}
use Rattle.chains.proofs.loops.Goals as goal

pub returns-then-number-eq-ENTRY : goal.returns-then-number-eq-ENTRY
unfolding loops_at same_z
returns-then-number-eq-ENTRY c = grind arith

pub returns-else-number-eq-ENTRY : goal.returns-else-number-eq-ENTRY
unfolding loops_at same_z
returns-else-number-eq-ENTRY c = grind (arith, common_steps)
