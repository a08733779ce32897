-- `lookups::stored_spot` meets its contract. Assumes nothing.
use mathlib.Core.Path.{◌∙◌}
use Rattle.signed.proofs.Machine.{rd-is}
use Rattle.lookups.specs.Spots.{stored_spot}
use Rattle.lookups.proofs.Looking.{sound-file, faulty-none, sound-found}
use Rattle.lookups.proofs.stored_spot.Goals as goal

pub returns-then-is_faulty : goal.returns-then-is_faulty
unfolding stored_spot
returns-then-is_faulty c = faulty-none _ _ _ c.is_faulty.ensures _ _ c.if-is_faulty.true

pub stored_place-requires : goal.stored_place-requires
stored_place-requires c = sound-file _ _ _ c.is_faulty.ensures c.if-is_faulty.false

pub returns : goal.returns
unfolding stored_spot
returns c = c.spot_in.ensures ∙ rw (c.stored_place.ensures, rd-is c.ranges.id) (sound-found _ _ _ c.is_faulty.ensures _ _ c.if-is_faulty.false)
