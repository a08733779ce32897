-- `sets::is_in` meets its contract. Assumes nothing.
use Rattle.std.proofs.Common.{rules, tests}
use Rattle.sets.specs.Sets.{is_in}
use Rattle.sets.proofs.is_in.Goals as goal

pub returns-then-parts-eq0 : goal.returns-then-parts-eq0
unfolding is_in
returns-then-parts-eq0 c = search (tests, rules)

pub returns-else-parts-eq0 : goal.returns-else-parts-eq0
unfolding is_in
returns-else-parts-eq0 c = search (tests, rules)
