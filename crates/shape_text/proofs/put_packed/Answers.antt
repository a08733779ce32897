use mathlib.Core.Path.{◌∙◌}
use native.Mathlib.Omega.{arith}
use Rattle.signed.proofs.Machine.{rd-at}
use Rattle.shape_text.proofs.Lines.{packed_none, packed-length, packed_more, packed_all}
use Rattle.shape_text.proofs.put_packed.Goals as goal

pub loop-i-init : goal.loop-i-init
loop-i-init c = packed_none _ _ _ (omega arith) (omega arith)

pub loop-i-preserved : goal.loop-i-preserved
loop-i-preserved c =
    packed_more c.loop-i.invariant c.run_end-end.ensures (rd-at c.step.result c.step.type_inv ∙ c.step.ensures) c.put_run-place.ensures

pub returns : goal.returns
returns c = packed_all c.loop-i.invariant (omega arith)
