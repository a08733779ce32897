-- The numbers of a padded row: its kind first, then its own. Assumes nothing.
use Prim.Native.Nat.{ℕ, zero, suc, ◌-◌, ◌≤◌}
use mathlib.Core.List.{List, [], ◌∷◌, ◌++◌}
use mathlib.Core.Path.{◌≡◌, refl, ap, ◌∙◌}
use native.Mathlib.Omega.{arith}
use lib.IntN.{ℤ, pos}
use lib.ListN.{length, get_or, drop, replicate}
use lib.Seq.{sets-eq}
use Rattle.columns.specs.Rows.{blank, padded}
use Rattle.columns.proofs.Widths.{padded-own}

getD-zeros : (vs : List ℤ) (m c : ℕ) → get_or (vs ++ replicate m (pos 0)) c (pos 0) ≡ get_or vs c (pos 0)
getD-zeros [] zero c = refl
getD-zeros [] (suc m) zero = refl
getD-zeros [] (suc m) (suc c) = getD-zeros [] m c
getD-zeros (v ∷ vs) m zero = refl
getD-zeros (v ∷ vs) m (suc c) = getD-zeros vs m c

behind : (cells : List ℤ) (c : ℕ) → get_or cells (suc c) (pos 0) ≡ get_or (drop 1 cells) c (pos 0)
behind [] c = refl
behind (v ∷ cells) c = refl

module _ (kind : ℕ) (vs : List ℤ) (h : length vs ≤ 11) where
  pub kind-first : get_or (padded kind vs) 0 (pos 0) ≡ pos kind
  unfolding padded
  kind-first = ap (λ (l : List ℤ). get_or l 0 (pos 0)) (sets-eq (pos kind ∷ vs) blank 0 (omega arith))

  pub own-number : (c : ℕ) → get_or (padded kind vs) (suc c) (pos 0) ≡ get_or vs c (pos 0)
  own-number c = behind (padded kind vs) c ∙ ap (λ (l : List ℤ). get_or l c (pos 0)) (padded-own kind vs h) ∙ getD-zeros vs (11 - length vs) c
