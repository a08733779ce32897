-- `section_text::put_delay` meets its contract. Assumes nothing.
use Rattle.std.proofs.Common.{◌∙◌, arith, rules}
use Rattle.output.proofs.Over.{put-none}
use Rattle.section_text.specs.Sections.{whole_micros}
use Rattle.section_text.proofs.Putting.{line-new, line-old}
use Rattle.signed.proofs.Machine.{rd-at}
use Rattle.section_text.proofs.put_delay.Goals as goal

pub returns-then-used-next : goal.returns-then-used-next
unfolding whole_micros
returns-then-used-next c = rw (← line-new _ _ _ _ c.if-used-next.true _ _ c.nanos_at.ensures (search rules) _ _ (rd-at _ c.plain_number-id.type_inv ∙ c.plain_number-id.ensures) (rd-at _ c.plain_number.type_inv ∙ c.plain_number.ensures)) c.put_line.ensures

pub returns : goal.returns
returns c = rw (← line-old _ _ _ _ c.if-used-next.false) (put-none (omega arith) (omega arith))
