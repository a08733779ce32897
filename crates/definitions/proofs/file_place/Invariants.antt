-- `definitions::file_place` meets its contract. The loop seeks the key in the lines that are left (`PlaceWalk`). Assumes nothing.
use Prim.Native.Nat.{suc, ◌-◌}
use lib.ListN.{length}
use Rattle.definitions.proofs.Placing.{PlaceWalk}
use Rattle.definitions.proofs.file_place.Given as goal

abbrev pub invariant-loop-walk : goal.invariant-loop-walk
invariant-loop-walk l = PlaceWalk l.file l.key l.walk.state l.walk.at (suc l.walk.lines)

abbrev pub decreases-loop-walk : goal.decreases-loop-walk
decreases-loop-walk l = length l.file - l.walk.at
