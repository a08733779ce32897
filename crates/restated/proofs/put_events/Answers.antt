-- `restated::put_events` meets its contract. Assumes nothing.
use Rattle.restated.specs.Text.{event_sections}
use Rattle.output.proofs.Over.{put_then}
use Rattle.restated.proofs.put_events.Goals as goal

pub returns : goal.returns
unfolding event_sections
returns c = put_then c.put_section-gradients.ensures (put_then c.put_section-traps.ensures (put_then c.put_section-adc.ensures c.put_section.ensures))
