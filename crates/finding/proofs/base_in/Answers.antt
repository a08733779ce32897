-- `finding::base_in` meets its contract: what stands behind all hints. Assumes nothing.
use Rattle.std.proofs.Common.{rules}
use Rattle.finding.specs.Hints.{base_of}
use Rattle.finding.proofs.base_in.Goals as goal

pub returns : goal.returns
unfolding base_of
returns c = search rules
