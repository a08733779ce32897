-- `lookups::definition_spot` meets its contract. Assumes nothing.
use Rattle.std.proofs.Common.{Some, None}
use Rattle.std.specs.Option.{option_or}
use mathlib.Core.Path.{◌≡◌, refl, ◌∙◌}
use Rattle.lookups.specs.Spots.{Spot, either_spot, definition_spot}
use Rattle.lookups.proofs.Looking.{faulty-none, sound-found}
use Rattle.lookups.proofs.definition_spot.Goals as goal

-- the first, or the second if the first is nowhere
either-or : (a b : Spot) → option_or a b ≡ either_spot a b
either-or (Some part) b = refl
either-or None b = refl

pub returns-then-is_faulty : goal.returns-then-is_faulty
unfolding definition_spot
returns-then-is_faulty c = faulty-none _ _ _ c.is_faulty.ensures _ _ c.if-is_faulty.true

pub returns : goal.returns
unfolding definition_spot
returns c = c.or.ensures ∙ either-or c.spot_in-first.result c.spot_in-second.result ∙ rw (c.spot_in-first.ensures, c.file_place.ensures, c.spot_in-second.ensures, c.site_place.ensures) (sound-found _ _ _ c.is_faulty.ensures _ _ c.if-is_faulty.false)
