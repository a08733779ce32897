-- `lengths::steps` meets its contract. Assumes nothing.
use Rattle.std.proofs.Common.{arith}
use Rattle.std.proofs.lemmas.Int.{to_z-of_z}
use Rattle.signed.specs.Signed.{same_z}
use Rattle.lengths.specs.Lengths.{steps_at}
use Rattle.lengths.proofs.steps.Goals as goal

pub returns-then-time-eq0 : goal.returns-then-time-eq0
unfolding steps_at same_z
returns-then-time-eq0 c = grind (arith, to_z-of_z)

pub returns : goal.returns
unfolding steps_at same_z
returns c = grind (arith, to_z-of_z)
