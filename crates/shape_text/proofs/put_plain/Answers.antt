-- `shape_text::put_plain` meets its contract. Assumes nothing.
use Rattle.std.proofs.Common.{arith}
use Rattle.signed.proofs.Machine.{rd-at}
use Rattle.shape_text.proofs.Lines.{plain-none, plain_more, plain-all}
use Rattle.shape_text.proofs.put_plain.Goals as goal

pub loop-z-init : goal.loop-z-init
loop-z-init c = plain-none _ _ _ (omega arith) (omega arith)

pub loop-z-preserved : goal.loop-z-preserved
loop-z-preserved c = plain_more c.loop-z.invariant (omega arith) (rd-at _ (omega arith)) c.put_value-place.ensures

pub returns : goal.returns
returns c = plain-all c.loop-z.invariant (omega arith)
