-- `definition_text::put_definition_section` meets its contract. Assumes nothing.
use Rattle.std.proofs.Common.{arith}
use Rattle.output.proofs.Over.{put-none}
use Rattle.definition_text.proofs.Putting.{section-put, section-left}
use Rattle.definition_text.specs.Definitions.{definitions_head}
use Rattle.definition_text.proofs.put_definition_section.Goals as goal

pub returns-then-has_lines : goal.returns-then-has_lines
unfolding definitions_head
returns-then-has_lines c = section-put _ _ _ _ c.has_lines.ensures c.if-has_lines.true c.put_bytes-body.ensures c.put_own-added.ensures c.put_added-end.ensures c.put_byte.ensures

pub returns : goal.returns
returns c = rw (← section-left _ _ _ _ c.has_lines.ensures c.if-has_lines.false) (put-none (omega arith) (omega arith))
