-- `output::put_bytes` meets its contract. Assumes nothing.
use Rattle.std.proofs.Common.{arith}
use Rattle.output.proofs.Over.{put-none, put-more}
use Rattle.output.proofs.put_bytes.Goals as goal

pub loop-b-init : goal.loop-b-init
loop-b-init c = put-none (omega arith) (omega arith)

pub loop-b-preserved : goal.loop-b-preserved
loop-b-preserved c = put-more c.args.bytes.now c.loop-b.b-index c.loop-b.invariant (omega arith) c.put_byte-place.ensures
