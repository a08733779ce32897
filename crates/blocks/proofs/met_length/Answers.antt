-- `blocks::met_length` meets its contract. Assumes nothing.
use Rattle.std.proofs.Common.{arith}
use Rattle.std.proofs.lemmas.Grind.{common_steps}
use Rattle.std.proofs.lemmas.Int.{to_z-of_z}
use Rattle.blocks.specs.Blocks.{met_length}
use Rattle.blocks.proofs.met_length.Goals as goal

pub returns-then-k-rows : goal.returns-then-k-rows
unfolding met_length
returns-then-k-rows c = grind (arith, common_steps, to_z-of_z)

pub returns : goal.returns
unfolding met_length
returns c = grind (arith, common_steps, to_z-of_z)
