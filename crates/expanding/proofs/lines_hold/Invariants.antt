-- `expanding::lines_hold` meets its contract. The loop counts (`Holding`); a line takes a byte at least, so the count fits. Assumes nothing.
use Prim.Native.Nat.{◌-◌}
use lib.ListN.{length}
use Rattle.expanding.proofs.Holding.{Holding}
use Rattle.expanding.proofs.lines_hold.Given as goal

abbrev pub invariant-loop-at : goal.invariant-loop-at
invariant-loop-at l = Holding l.stored l.at l.n

abbrev pub decreases-loop-at : goal.decreases-loop-at
decreases-loop-at l = length l.stored - l.at
