-- `events::micros_off` meets its contract. Assumes nothing.
use Rattle.std.proofs.Common.{arith}
use Rattle.std.proofs.lemmas.Int.{to_z-of_z}
use Rattle.events.specs.Align.{micros_off}
use Rattle.events.proofs.micros_off.Goals as goal

pub returns : goal.returns
unfolding micros_off
returns c = grind (arith, to_z-of_z)
