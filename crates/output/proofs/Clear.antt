-- A loop that clears a lent list from a place on, for elements of any type: what is known where it stands at i, and the laws of a turn
-- and the end. Assumes nothing.
use Prim.Native.Nat.{ℕ, suc, ◌+◌, ◌-◌, ◌≤◌, ◌<◌}
use mathlib.Core.List.{List, [], ◌∷◌, ◌++◌, append_assoc, append-nil}
use mathlib.Core.Path.{◌≡◌, sym, ◌∙◌}
use native.Mathlib.Numerals.{add-one}
use native.Mathlib.Omega.{arith}
use lib.ListN.{length, take, set, replicate, length-set}
use lib.Seq.{take_all, take-suc-set}
use Rattle.output.specs.Over.{cleared_from}

module _ {A : Type 0} (z : A) where
  pub record Clearing (l₀ : List A) (from : ℕ) (l : List A) (i : ℕ) : Type 0 where
    pub long : length l ≡ length l₀
    pub same : cleared_from z i l ≡ cleared_from z from l₀

  pub clear-turn : {l₀ : List A} {from : ℕ} (l : List A) (i : ℕ) → Clearing l₀ from l i → i < length l → Clearing l₀ from (set l i z) (i + 1)
  unfolding cleared_from
  clear-turn l i c h =
      let n : length l - i ≡ suc (length l - suc i) = omega arith in
      let e : take i l ++ replicate (length l - i) z ≡ (take i l ++ (z ∷ [])) ++ replicate (length l - suc i) z = rw (n, append_assoc) in
      record {
        long = length-set l i z ∙ c.long;
        same = rw (add-one i, length-set l i z, take-suc-set l i z h) (sym e ∙ c.same);
      }

  pub clear-end : {l₀ : List A} {from : ℕ} (l : List A) (i : ℕ) → Clearing l₀ from l i → length l ≤ i → l ≡ cleared_from z from l₀
  unfolding cleared_from
  clear-end l i c h =
      let n : length l - i ≡ 0 = omega arith in
      let e : take i l ++ replicate (length l - i) z ≡ l = rw (n, take_all i l h) (append-nil l) in
      sym e ∙ c.same

  -- from the first place on
  pub cleared-all : (l : List A) → cleared_from z 0 l ≡ replicate (length l) z
  unfolding cleared_from
  cleared-all l = let e : length l - 0 ≡ length l = omega arith in rw e
