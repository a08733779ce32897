-- `restated::put_text` meets its contract. Assumes nothing.
use Rattle.restated.specs.Text.{restated_text}
use mathlib.Core.Path.{◌∙◌}
use Rattle.output.proofs.Over.{put_then, put-length}
use Rattle.restated.proofs.put_text.Goals as goal

pub shape_of-out : goal.shape_of-out
shape_of-out c = put-length c.put_shape_section.ensures ∙ put-length c.put_extension_section-shapes.ensures ∙ put-length c.put_delays_for-extensions.ensures ∙ put-length c.put_events-delays.ensures ∙ put-length c.put_section-events.ensures ∙ put-length c.put_definition_section-blocks.ensures ∙ put-length c.put_version-definitions.ensures

pub returns : goal.returns
unfolding restated_text
returns c = put_then c.put_version-definitions.ensures (put_then c.put_definition_section-blocks.ensures (put_then c.put_section-events.ensures (put_then c.put_events-delays.ensures (put_then c.put_delays_for-extensions.ensures (put_then c.put_extension_section-shapes.ensures c.put_shape_section.ensures)))))
