-- `shape::stands_at` meets its contract: a byte within the text, or none. Assumes nothing.
use Rattle.std.proofs.Common.{rules, tests}
use Rattle.shape.specs.Inside.{stands_at}
use Rattle.shape.proofs.stands_at.Goals as goal

pub returns-then-at-text : goal.returns-then-at-text
unfolding stands_at
returns-then-at-text c = search (tests, rules)

pub returns-else-at-text : goal.returns-else-at-text
unfolding stands_at
returns-else-at-text c = search (tests, rules)
