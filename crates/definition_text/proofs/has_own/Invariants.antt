-- `definition_text::has_own` meets its contract. The loop's invariant: no line before this one is a definition (`NoneYet`). Assumes nothing.
use Prim.Native.Nat.{suc, ◌-◌}
use lib.ListN.{length}
use Rattle.definition_text.proofs.Putting.{NoneYet}
use Rattle.definition_text.proofs.has_own.Given as goal

abbrev pub invariant-loop-did : goal.invariant-loop-did
invariant-loop-did l = NoneYet l.file l.walk.state l.walk.at (suc l.walk.lines)

abbrev pub decreases-loop-did : goal.decreases-loop-did
decreases-loop-did l = length l.file - l.walk.at
