-- `unit::Nanos::micros` meets its contract. Assumes nothing.
use Rattle.std.proofs.Common.{arith}
use Rattle.std.proofs.lemmas.Grind.{common_steps}
use Rattle.unit.specs.Time.{in_micros}
use Rattle.unit.proofs.Nanos.micros.Goals as goal

pub returns : goal.returns
unfolding in_micros
returns c = grind (arith, common_steps)
