-- `events::trap_off` meets its contract. Assumes nothing.
use Rattle.std.proofs.Common.{arith}
use Rattle.std.proofs.lemmas.Grind.{common_steps}
use Rattle.events.specs.Align.{trap_off}
use Rattle.events.proofs.trap_off.Goals as goal

pub returns-then-micros_off-3 : goal.returns-then-micros_off-3
unfolding trap_off
returns-then-micros_off-3 c = grind (arith, common_steps)

pub returns-else-micros_off-3 : goal.returns-else-micros_off-3
unfolding trap_off
returns-else-micros_off-3 c = grind (arith, common_steps)
