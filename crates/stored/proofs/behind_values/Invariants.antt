-- `stored::behind_values` meets its contract. The loop walks to the end of the lines that are left (`Ending`). Assumes nothing.
use Prim.Native.Nat.{◌-◌}
use lib.ListN.{length}
use Rattle.stored.proofs.Stored.{Ending}
use Rattle.stored.proofs.behind_values.Given as goal

abbrev pub invariant-loop-walk : goal.invariant-loop-walk
invariant-loop-walk l = Ending l.file l.initial.walk l.walk

abbrev pub decreases-loop-walk : goal.decreases-loop-walk
decreases-loop-walk l = length l.file - l.walk.at
