-- `file_checks::show_samples` is safe and ends: each line's samples lie in the part, and the next line starts further on. The measure is how many
-- samples are left. Nothing has to hold from turn to turn. Assumes nothing.
use Prim.Native.Nat.{◌-◌}
use lib.ListN.{length}
use Rattle.file_checks.proofs.show_samples.Given as goal

abbrev pub invariant-loop-at : goal.invariant-loop-at
invariant-loop-at l = Unit {0}

abbrev pub decreases-loop-at : goal.decreases-loop-at
decreases-loop-at l = length l.samples - l.at
