-- A list of one, two or three elements is these, each by its number. Assumes nothing.
use mathlib.Core.List.{List, [], ◌∷◌}
use mathlib.Core.Path.{◌≡◌, refl, ap}
use native.Mathlib.Omega.{arith}
use lib.ListN.{length, get_or}

module _ {A : Type 0} (d : A) where
  pub one_of : (l : List A) → length l ≡ 1 → l ≡ get_or l 0 d ∷ []
  one_of [] h = absurd (omega arith)
  one_of (a ∷ []) h = refl
  one_of (a ∷ b ∷ l) h = absurd (omega arith)

  pub two-of : (l : List A) → length l ≡ 2 → l ≡ get_or l 0 d ∷ get_or l 1 d ∷ []
  two-of [] h = absurd (omega arith)
  two-of (a ∷ l) h = ap (λ (t : List A). a ∷ t) (one_of l (omega arith))

  pub three-of : (l : List A) → length l ≡ 3 → l ≡ get_or l 0 d ∷ get_or l 1 d ∷ get_or l 2 d ∷ []
  three-of [] h = absurd (omega arith)
  three-of (a ∷ l) h = ap (λ (t : List A). a ∷ t) (two-of l (omega arith))
