-- `definition_text::put_absent` meets its contract. Assumes nothing.
use Rattle.std.proofs.Common.{arith}
use Rattle.std.proofs.lemmas.Grind.{common_steps}
use Rattle.output.proofs.Over.{put-none}
use Rattle.definition_text.proofs.Putting.{absent-line, absent_none}
use Rattle.definition_text.proofs.put_absent.Goals as goal

pub returns-then-is_empty : goal.returns-then-is_empty
returns-then-is_empty c = rw (← absent-line _ _ _ _ c.file_definition.ensures (grind (arith, common_steps)) c.site_definition.ensures) c.put_definition.ensures

pub returns : goal.returns
returns c = rw (← absent_none _ _ _ _ c.file_definition.ensures (grind (arith, common_steps))) (put-none (omega arith) (omega arith))
