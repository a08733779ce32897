-- A worked example, computed from the definitions.
use mathlib.Core.Path.{◌≡◌, refl}
use mathlib.Core.List.{[], ◌∷◌}
use Rattle.output.specs.Over.{over}

-- laid over from 1 on: the third byte does not fit
over-clipped : over (0 ∷ 0 ∷ 0 ∷ []) 1 (7 ∷ 8 ∷ 9 ∷ []) ≡ 0 ∷ 7 ∷ 8 ∷ []
unfolding over
over-clipped = refl
