-- `finding::group_of` meets its contract. Assumes nothing.
use Rattle.std.proofs.Common.{arith, rules}
use Rattle.finding.specs.Hints.{group_of}
use Rattle.finding.proofs.group_of.Goals as goal

pub returns-then-n-lt65535 : goal.returns-then-n-lt65535
unfolding group_of
returns-then-n-lt65535 c = omega (arith, c.if-n-lt65535.true)

pub returns : goal.returns
unfolding group_of
returns c = search rules
