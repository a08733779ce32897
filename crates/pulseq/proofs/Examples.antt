-- Worked examples of what is told. Assumes nothing.
use Rattle.std.proofs.Common.{None, Some}
use mathlib.Core.List.{[], ◌∷◌}
use mathlib.Core.Path.{◌≡◌, refl}
use Rattle.shape.specs.declared.Edition.TheVariants.{V13, V14}
use Rattle.pulseq.specs.Exports.{told, edition_of}

-- an answer that is long enough, one that is longer, one that is shorter, and one that is empty
pub told-examples : (told 2 (12 ∷ 7 ∷ []) ≡ 12 ∷ 7 ∷ []) × ((told 4 (12 ∷ 7 ∷ []) ≡ 12 ∷ 7 ∷ 0 ∷ 0 ∷ []) × ((told 1 (12 ∷ 7 ∷ []) ≡ 12 ∷ []) × (told 0 (12 ∷ 7 ∷ []) ≡ [])))
unfolding told
told-examples = (refl, (refl, (refl, refl)))

-- the two editions, and numbers that name none
pub edition-examples : (edition_of 103 ≡ Some V13) × ((edition_of 104 ≡ Some V14) × ((edition_of 0 ≡ None) × (edition_of 14 ≡ None)))
unfolding edition_of
edition-examples = (refl, (refl, (refl, refl)))
