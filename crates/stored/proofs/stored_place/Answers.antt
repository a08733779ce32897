-- `stored::stored_place` meets its contract: the shape is sought from the front. Assumes nothing.
use mathlib.Core.Path.{ap, ◌∙◌}
use Rattle.signed.proofs.Machine.{rd-is}
use Rattle.stored.specs.Places.{stored_place}
use Rattle.stored.proofs.Walking.{front-lines, front-sound, front-part}
use Rattle.stored.proofs.stored_place.Goals as goal

pub seek-sought-requires : goal.seek-sought-requires
seek-sought-requires c = record { lines_le_at = front-lines _ c.walk_start.ensures; file_value = front-sound _ _ c.walk_start.ensures c.requires }

pub returns : goal.returns
returns c = front-part _ _ _ c.walk_start.ensures _ c.seek-sought.ensures ∙ ap (stored_place _) (rd-is c.ranges.id)
