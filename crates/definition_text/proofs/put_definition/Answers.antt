-- `definition_text::put_definition` meets its contract. Assumes nothing.
use Rattle.definition_text.specs.Definitions.{definition_line}
use Rattle.output.proofs.Over.{put_then}
use Rattle.definition_text.proofs.put_definition.Goals as goal

pub returns : goal.returns
unfolding definition_line
returns c = put_then c.put_bytes-space.ensures (put_then c.put_bytes-start.ensures (put_then c.put_bytes-end.ensures c.put_byte.ensures))
