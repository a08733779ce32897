-- `shape_text::put_value` meets its contract: the sample's text, then an LF. Assumes nothing.
use Rattle.signed.proofs.Machine.{rd-is}
use Rattle.shape_text.proofs.Lines.{put-line}
use Rattle.shape_text.proofs.put_value.Goals as goal

pub returns : goal.returns
returns c =
    put-line (rw (rd-is c.ranges.z) at c.put_sample-next.ensures) c.put_byte.ensures
