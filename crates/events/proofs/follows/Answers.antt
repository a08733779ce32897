-- `events::follows` meets its contract. Assumes nothing.
use Rattle.std.proofs.Common.{arith}
use Rattle.std.proofs.lemmas.Grind.{common_steps}
use Rattle.events.specs.Use.{follows_of}
use Rattle.events.proofs.follows.Goals as goal

pub returns-then-last-z : goal.returns-then-last-z
unfolding follows_of
returns-then-last-z c = grind (arith, common_steps)

pub returns-else-last-z : goal.returns-else-last-z
unfolding follows_of
returns-else-last-z c = grind (arith, common_steps)
