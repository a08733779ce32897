-- `shape_section::put_word` meets its contract. Assumes nothing.
use Rattle.signed.proofs.Machine.{rd-is}
use Rattle.shape_section.proofs.Putting.{word-put}
use Rattle.shape_section.proofs.put_word.Goals as goal

pub returns : goal.returns
returns c = word-put (rd-is c.ranges.z) c.put_bytes-space.ensures c.put_byte-number.ensures c.put_signed-feed.ensures c.put_byte.ensures
