-- `stored::seek` meets its contract. The loop seeks the shape among the lines that are left (`Seeking`). Assumes nothing.
use Prim.Native.Nat.{◌-◌}
use lib.ListN.{length}
use Rattle.stored.proofs.Seeking.{Seeking}
use Rattle.stored.proofs.seek.Given as goal

abbrev pub invariant-loop-walk : goal.invariant-loop-walk
invariant-loop-walk l = Seeking l.file l.any l.id l.initial.walk l.walk

abbrev pub decreases-loop-walk : goal.decreases-loop-walk
decreases-loop-walk l = length l.file - l.walk.at
