-- `finding::lay_base` meets its contract: a hint behind all others. Assumes nothing.
use Rattle.std.proofs.Common.{rules}
use Rattle.finding.specs.Hints.{based_on}
use Rattle.finding.proofs.lay_base.Goals as goal

pub returns : goal.returns
unfolding based_on
returns c = search rules
