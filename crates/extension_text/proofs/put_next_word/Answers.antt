-- `extension_text::put_next_word` meets its contract. Assumes nothing.
use Rattle.output.proofs.Over.{put_then}
use Rattle.extension_text.proofs.put_next_word.Goals as goal

pub returns : goal.returns
returns c = rw (← c.word_at.ensures) (put_then c.put_byte-next.ensures c.put_bytes.ensures)
