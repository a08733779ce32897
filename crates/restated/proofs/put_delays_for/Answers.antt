-- `restated::put_delays_for` meets its contract. Assumes nothing.
use Rattle.std.proofs.Common.{arith}
use Rattle.output.proofs.Over.{put-none}
use Rattle.restated.proofs.Sections.{delays-13, delays-14}
use Rattle.restated.proofs.put_delays_for.Goals as goal

pub returns-in-V13 : goal.returns-in-V13
returns-in-V13 c = rw (← delays-13 _ _ _ c.in-V13.is) c.put_delay_section.ensures

pub returns-in-V14 : goal.returns-in-V14
returns-in-V14 c = rw (← delays-14 _ _ _ c.in-V14.is) (put-none (omega arith) (omega arith))
