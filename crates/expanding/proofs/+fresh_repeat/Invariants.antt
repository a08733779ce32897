-- `expanding::fresh` and `expanding::repeat` meet their contracts, each by the other. The measure is the number of stored values left, and which of the two
-- stands. Assumes nothing.
use Prim.Native.Nat.{◌+◌, ◌*◌}
use lib.ListN.{length}
use Rattle.shape.specs.Stored.{values_at}
use Rattle.expanding.proofs.+fresh_repeat.Given as goal

abbrev pub decreases-fresh : goal.decreases-fresh
decreases-fresh l = 2 + 2 * length (values_at l.stored.now l.from)

abbrev pub decreases-repeat : goal.decreases-repeat
decreases-repeat l = 1 + 2 * length (values_at l.stored.now l.from)
