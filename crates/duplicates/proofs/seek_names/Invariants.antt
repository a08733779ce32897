-- `duplicates::seek_names` meets its contract. The loop comes to where EXTENSIONS begins (`NamesWalk`). Assumes nothing.
use Rattle.duplicates.proofs.Passed.{NamesWalk}
use lib.ListN.{length}
use Prim.Native.Nat.{◌-◌}
use Rattle.duplicates.proofs.seek_names.Given as goal

abbrev pub invariant-loop-at : goal.invariant-loop-at
invariant-loop-at l = NamesWalk l.file l.st l.at l.n

abbrev pub decreases-loop-at : goal.decreases-loop-at
decreases-loop-at l = length l.file - l.at
