-- Samples that are as is asked, by the answers of the code's tests. Assumes nothing.
use Prim.Native.Nat.{ℕ, ◌+◌, ◌≤◌, ◌<◌}
use mathlib.Core.Bool.{Bool, true, false, ◌&&◌}
use mathlib.Core.List.{List, [], ◌∷◌}
use mathlib.Core.Path.{◌≡◌, refl, ap}
use native.Mathlib.Numerals.{add-one}
use lib.Dec.{leb}
use lib.IntN.{ℤ, pos, nat_abs}
use lib.ListN.{length, get_or, drop, drop_of_length-le}
use lib.Seq.{drop-cons}
use Rattle.std.specs.List.{list_all}
use Rattle.events.specs.Use.{all_unit, follows_of, rises_from}

-- ---- all samples
pub unit-all : (zs : List ℤ) → list_all (λ (z : ℤ). leb (nat_abs z) 1000000000000) zs ≡ all_unit zs
unfolding all_unit
unit-all [] = refl
unit-all (z ∷ zs) = ap (λ (rest : Bool). leb (nat_abs z) 1000000000000 && rest) (unit-all zs)

-- ---- one time after another
module _ (zs : List ℤ) (i : ℕ) where
  module _ (h : i < length zs) (z : ℤ) (p : z ≡ get_or zs i (pos 0)) where
    pub rise-turn : (last : ℤ) → follows_of last z ≡ true → rises_from z (drop (i + 1) zs) ≡ rises_from last (drop i zs)
    unfolding rises_from
    rise-turn last e = rw (drop-cons zs i (pos 0) h, ← p, e, add-one i)

    pub rise-not : (last : ℤ) → follows_of last z ≡ false → false ≡ rises_from last (drop i zs)
    unfolding rises_from
    rise-not last e = rw (drop-cons zs i (pos 0) h, ← p, e)

  module _ (h : length zs ≤ i) where
    pub rise-end : (last : ℤ) → true ≡ rises_from last (drop i zs)
    unfolding rises_from
    rise-end last = rw (drop_of_length-le zs h)
