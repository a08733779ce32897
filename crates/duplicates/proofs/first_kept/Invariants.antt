-- `duplicates::first_kept` meets its contract. The loop goes from line to line, and keeps the words that are asked for (`KeptWalk`). Assumes nothing.
use Rattle.duplicates.proofs.Passed.{KeptWalk}
use lib.ListN.{length}
use Prim.Native.Nat.{◌-◌}
use Rattle.duplicates.proofs.first_kept.Given as goal

abbrev pub invariant-loop-at : goal.invariant-loop-at
invariant-loop-at l = KeptWalk l.parts l.part l.file l.names l.initial.set l.st l.at l.n l.set

abbrev pub decreases-loop-at : goal.decreases-loop-at
decreases-loop-at l = length l.file - l.at
