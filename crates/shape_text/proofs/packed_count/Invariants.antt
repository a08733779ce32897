-- `shape_text::packed_count` meets its contract. The loop's invariant: n and the values of the runs from i on make up the count, and n is at most 3 for each sample passed. Assumes nothing.
use Prim.Native.Nat.{◌-◌}
use lib.ListN.{length}
use Rattle.shape_text.proofs.Lines.{Counted}
use Rattle.shape_text.proofs.packed_count.Given as goal

abbrev pub invariant-loop-i : goal.invariant-loop-i
invariant-loop-i l = Counted l.samples l.i l.n

abbrev pub decreases-loop-i : goal.decreases-loop-i
decreases-loop-i l = length l.samples - l.i
