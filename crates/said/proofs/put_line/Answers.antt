-- `said::put_line` meets its contract. Assumes nothing.
use Rattle.said.specs.Said.{line_text}
use Rattle.output.proofs.Over.{put_then}
use Rattle.said.proofs.put_line.Goals as goal

pub returns : goal.returns
unfolding line_text
returns c = put_then c.put_row-next.ensures c.put_byte.ensures
