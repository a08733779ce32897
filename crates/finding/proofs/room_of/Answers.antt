-- `finding::room_of` meets its contract. Assumes nothing.
use Rattle.std.proofs.Common.{rules}
use Rattle.finding.specs.Hints.{room_of}
use Rattle.finding.proofs.room_of.Goals as goal

pub returns : goal.returns
unfolding room_of
returns c = search rules
