-- `finding::mark_of` meets its contract. Assumes nothing.
use Rattle.std.proofs.Common.{rules}
use Rattle.finding.specs.Hints.{group_of, mark_of}
use Rattle.finding.proofs.mark_of.Goals as goal

pub nonzero_div-group : goal.nonzero_div-group
unfolding group_of
nonzero_div-group c = search rules

pub returns : goal.returns
unfolding mark_of
returns c = search rules
