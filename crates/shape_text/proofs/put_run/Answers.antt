-- `shape_text::put_run` meets its contract: a value alone, or the value twice and the count of those left. Assumes nothing.
use native.Mathlib.Omega.{arith}
use Rattle.signed.proofs.Machine.{rd-is}
use Rattle.shape_text.proofs.Lines.{put_alone, put-repeated}
use Rattle.shape_text.proofs.put_run.Goals as goal

pub returns-then-n-eq1 : goal.returns-then-n-eq1
returns-then-n-eq1 c = put_alone _ _ c.if-n-eq1.true (rd-is c.ranges.d) c.put_value-first.ensures

pub returns : goal.returns
returns c =
    put-repeated _ _ (omega arith) c.if-n-eq1.false
    (rd-is c.ranges.d) c.put_value-first.ensures c.put_value-second.ensures c.put_integer-count.ensures c.put_byte.ensures
