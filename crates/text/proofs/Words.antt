-- `same_bytes` decides whether two texts are equal; so does `==` on slices; and how large a word's place can be. Assumes nothing.
use Prim.Native.Nat.{ℕ, suc, ◌+◌, ◌≤◌}
use mathlib.Core.Bool.{Bool, true, false, cond, ◌&&◌, true≢false}
use mathlib.Core.List.{List, [], ◌∷◌}
use mathlib.Core.Path.{◌≡◌, refl, sym, ap, ◌∙◌}
use native.Mathlib.Omega.{arith}
use borrow.Author.Tests.{eq-eqb, eqb-true}
use lib.Dec.{eqb}
use Rattle.std.specs.Str.{bytes_eq}
use lib.ListN.{length}
use Rattle.text.specs.Words.{same_bytes, place_from, place_of}

-- ---- the law
pub same_refl : (a : List ℕ) → same_bytes a a ≡ true
unfolding same_bytes
same_refl [] = refl
same_refl (c ∷ s) = rw (eq-eqb c c refl, same_refl s)

pub same_true : (a b : List ℕ) → same_bytes a b ≡ true → a ≡ b
unfolding same_bytes
same_true [] [] e = refl
same_true [] (d ∷ t) e = absurd (true≢false (sym e))
same_true (c ∷ s) [] e = absurd (true≢false (sym e))
same_true (c ∷ s) (d ∷ t) e = go (eqb c d) refl (same_true s t) e
  where
    go : (x : Bool) → eqb c d ≡ x → (same_bytes s t ≡ true → s ≡ t) → x && same_bytes s t ≡ true → c ∷ s ≡ d ∷ t
    go true p r e = rw (eqb-true c d p, r e)
    go false p r e = absurd (true≢false (sym e))

pub same_false : (a b : List ℕ) → same_bytes a b ≡ false → a ≡ b → ⊥
same_false a b e p = true≢false (sym (same_refl a) ∙ ap (same_bytes a) p ∙ e)

-- ---- what `==` says of two slices
pub same_eq : (a b : List ℕ) → bytes_eq a b ≡ same_bytes a b
unfolding same_bytes
same_eq [] [] = refl
same_eq [] (d ∷ t) = refl
same_eq (c ∷ s) [] = refl
same_eq (c ∷ s) (d ∷ t) = rw (same_eq s t)

-- ---- a place among words is at most their number
place-most : (n : ℕ) (vs : List (List ℕ)) (w : List ℕ) → place_from n vs w ≤ n + length vs
unfolding place_from
place-most n [] w = omega arith
place-most n (v ∷ vs) w = go (same_bytes v w) (place-most (suc n) vs w)
  where
    go : (b : Bool) → place_from (suc n) vs w ≤ suc n + length vs → cond b (suc n) (place_from (suc n) vs w) ≤ n + suc (length vs)
    go true h = omega arith
    go false h = omega arith

pub place-le : (vs : List (List ℕ)) (w : List ℕ) → place_of vs w ≤ length vs
place-le vs w = let h = place-most 0 vs w in omega arith
