use native.Mathlib.Omega.{arith}
use Rattle.pulseq.proofs.Telling.{telling-start, telling-turn, telling-end}
use Prim.Native.Nat.{◌-◌}
use Rattle.pulseq.proofs.tell.Goals as goal

pub loop-i-init : goal.loop-i-init
loop-i-init c = telling-start _ _

pub loop-i-preserved : goal.loop-i-preserved
loop-i-preserved c = telling-turn _ _ _ c.loop-i.invariant (omega arith) c.number_at.ensures

pub shape_of-answer : goal.shape_of-answer
shape_of-answer c = c.loop-i.invariant.long

pub returns : goal.returns
returns c = telling-end _ _ c.loop-i.invariant (omega arith)
