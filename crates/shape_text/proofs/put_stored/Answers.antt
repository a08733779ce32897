-- `shape_text::put_stored` meets its contract, by whether all samples are within ±100,000. Assumes nothing.
use Rattle.std.proofs.Common.{arith}
use Rattle.output.proofs.Over.{put-none}
use Rattle.shape_text.proofs.Outcome.{stored-within, stored-beyond}
use Rattle.shape_text.proofs.put_stored.Goals as goal

pub returns-then-all_within : goal.returns-then-all_within
returns-then-all_within c = rw (← stored-within _ _ c.all_within.ensures c.if-all_within.true) c.put_shape.ensures

pub returns : goal.returns
returns c = rw (← stored-beyond _ _ c.all_within.ensures c.if-all_within.false) (put-none (omega arith) (omega arith))
