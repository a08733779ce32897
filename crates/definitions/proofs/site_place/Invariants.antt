-- `definitions::site_place` meets its contract. The loop seeks the key in the lines that are left (`SitePlaced`). Assumes nothing.
use Prim.Native.Nat.{◌-◌}
use lib.ListN.{length}
use Rattle.definitions.proofs.Placing.{SitePlaced}
use Rattle.definitions.proofs.site_place.Given as goal

abbrev pub invariant-loop-at : goal.invariant-loop-at
invariant-loop-at l = SitePlaced l.site l.key l.at

abbrev pub decreases-loop-at : goal.decreases-loop-at
decreases-loop-at l = length l.site - l.at
