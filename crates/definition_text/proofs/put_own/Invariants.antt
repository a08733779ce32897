-- `definition_text::put_own` meets its contract. The loop's invariant: what was written and what the lines that are left define make up the text (`OwnPut`). Assumes nothing.
use Prim.Native.Nat.{suc, ◌-◌}
use lib.ListN.{length}
use Rattle.definition_text.proofs.Putting.{OwnPut}
use Rattle.definition_text.proofs.put_own.Given as goal

abbrev pub invariant-loop-line : goal.invariant-loop-line
invariant-loop-line l = OwnPut l.initial.out l.at l.file l.place l.out l.walk.state l.walk.at (suc l.walk.lines)

abbrev pub decreases-loop-line : goal.decreases-loop-line
decreases-loop-line l = length l.file - l.walk.at
