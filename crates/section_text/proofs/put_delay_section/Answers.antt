-- `section_text::put_delay_section` meets its contract. Assumes nothing.
use Rattle.std.proofs.Common.{arith}
use Rattle.output.proofs.Over.{put-none}
use Rattle.durations.proofs.Filling.{listed-first}
use Rattle.durations.specs.Durations.{FirstUsed}
use Rattle.said.proofs.Saying.{section-some, section-none}
use Rattle.section_text.specs.Sections.{delay_section}
use Rattle.section_text.proofs.Putting.{listed-some, listed-none}
use Rattle.section_text.proofs.put_delay_section.Goals as goal

pub invariant_of-uses : goal.invariant_of-uses
unfolding FirstUsed
invariant_of-uses c = record { first_used = listed-first c.list_uses-count.ensures }

pub returns-then-count-eq0 : goal.returns-then-count-eq0
unfolding delay_section
returns-then-count-eq0 c = rw (← section-none _ _ _ (listed-none c.list_uses-count.ensures (omega arith) (omega arith))) (put-none (omega arith) (omega arith))

pub returns : goal.returns
unfolding delay_section
returns c = section-some _ _ _ (listed-some c.list_uses-count.ensures (omega arith)) c.put_head-body.ensures c.put_delays-end.ensures c.put_byte.ensures
