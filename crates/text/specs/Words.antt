-- Whether two texts are the same, byte for byte, and where a word stands among others.
use Rattle.std.specs.Prelude.{ℕ, suc, Bool, true, false, cond, ◌&&◌, List, [], ◌∷◌, eqb}

unfoldable pub same_bytes : List ℕ → List ℕ → Bool
same_bytes [] [] = true
same_bytes [] (b ∷ t) = false
same_bytes (a ∷ s) [] = false
same_bytes (a ∷ s) (b ∷ t) = eqb a b && same_bytes s t

-- where a word stands among others, from 1; 0 if it is none of them
unfoldable pub place_from : ℕ → List (List ℕ) → List ℕ → ℕ
place_from n [] w = 0
place_from n (v ∷ vs) w = cond (same_bytes v w) (suc n) (place_from (suc n) vs w)

abbrev pub place_of : List (List ℕ) → List ℕ → ℕ
place_of vs w = place_from 0 vs w
