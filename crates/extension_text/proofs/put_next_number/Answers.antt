-- `extension_text::put_next_number` meets its contract. Assumes nothing.
use Rattle.signed.proofs.Machine.{rd-is}
use Rattle.output.proofs.Over.{put_then}
use Rattle.extension_text.proofs.put_next_number.Goals as goal

pub returns : goal.returns
returns c = rw (← rd-is c.ranges.z) (put_then c.put_byte-next.ensures c.put_signed.ensures)
