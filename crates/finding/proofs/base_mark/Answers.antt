-- `finding::base_mark` meets its contract. Assumes nothing.
use Rattle.std.proofs.Common.{rules}
use Rattle.finding.specs.Hints.{base_mark}
use Rattle.finding.proofs.base_mark.Goals as goal

pub returns : goal.returns
unfolding base_mark
returns c = search rules
