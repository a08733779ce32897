-- Things that are passed one after the other, those that are asked for kept by their numbers: one whose number is new is like none before it.
-- Assumes nothing.
use Prim.Native.Nat.{ℕ, ◌+◌, ◌%◌, ◌≤◌, ◌<◌}
use mathlib.Core.Bool.{Bool, true, false, true≢false}
use mathlib.Core.List.{List, [], ◌∷◌}
use mathlib.Core.Logic.{◌⊎◌, inl, inr}
use mathlib.Core.Path.{◌≡◌, refl, sym, ◌∙◌}
use native.Mathlib.Nat.{mod-lt}
use native.Mathlib.Omega.{arith}
use borrow.Author.Tests.{eq-eqb, ne_eqb, eqb-true}
use lib.Dec.{eqb}
use Rattle.std.specs.List.{fold}
use Rattle.text.proofs.Cases.{lt-or-ge}
use Rattle.sets.specs.Sets.{kept_of, places_after, Met, unless_new, AllMet, is_in, mixed_all, mixed}
use Rattle.sets.specs.declared.Kept.{Kept}
use Rattle.sets.specs.declared.Kept.TheVariants.{New}
use Rattle.sets.proofs.Keeping.{met-stays, met-now}

module _ {key : ℕ → ℕ} {asked : ℕ → Bool} where
  pub all_start : (places : List ℕ) → AllMet key asked places 0
  all_start places = record { each = λ j (l : j < 0) e. absurd (omega arith) }

  module _ {places : List ℕ} {k : ℕ} (a : AllMet key asked places k) where
    -- the next is not asked for, or is kept
    pub all-skip : asked k ≡ false → AllMet key asked places (k + 1)
    all-skip n = record { each = λ j l e. go j l e (lt-or-ge j k) }
      where
        go : (j : ℕ) → j < k + 1 → asked j ≡ true → (j < k) ⊎ (k ≤ j) → Met places (key j)
        go j l e (inl b) = a.each j b e
        go j l e (inr h) = let s : j ≡ k = omega arith in absurd (true≢false (sym (rw s at e) ∙ n))

    pub all-kept : AllMet key asked (places_after places (key k)) (k + 1)
    all-kept = record { each = λ j l e. go j l e (lt-or-ge j k) }
      where
        go : (j : ℕ) → j < k + 1 → asked j ≡ true → (j < k) ⊎ (k ≤ j) → Met (places_after places (key k)) (key j)
        go j l e (inl b) = met-stays (a.each j b e) (key k)
        go j l e (inr h) = let s : j ≡ k = omega arith in rw s (met-now places (key k))

    pub new-unlike : kept_of places (key k) ≡ New → (j : ℕ) → j < k → asked j ≡ true → key j ≡ key k → ⊥
    new-unlike n j l e q = (a.each j l e).known (rw q n)

-- ---- parts: by the tests of the code, and that each number is in one
module _ (x parts : ℕ) where
  module _ (n : parts ≡ 0 → ⊥) where
    pub in_some : (part : ℕ) → eqb (x % parts) part ≡ is_in x parts part
    unfolding is_in
    in_some part = rw (ne_eqb parts 0 n)

    pub in-own : (part : ℕ) → x % parts ≡ part → is_in x parts part ≡ true
    in-own part e = sym (in_some part) ∙ eq-eqb (x % parts) part e

    pub in_is : (part : ℕ) → is_in x parts part ≡ true → x % parts ≡ part
    in_is part e = eqb-true (x % parts) part (in_some part ∙ e)

    pub part_low : x % parts < parts
    part_low = mod-lt x (omega arith)

-- ---- what keeping answered, for the number as it was handed on
module _ (places : List ℕ) (key x : ℕ) (q : x ≡ key) where
  pub unless-as : (w v : Kept) → w ≡ kept_of places x → w ≡ v → (again b : Bool) → b ≡ unless_new v again → b ≡ unless_new (kept_of places key) again
  unless-as w v e f again b p = rw (← q, ← e, f) p

  pub places-as : {l : List ℕ} → l ≡ places_after places x → l ≡ places_after places key
  places-as e = e ∙ rw q

-- ---- a fold over bytes is the number made of them
pub mixed-fold : (h : ℕ) (s : List ℕ) → fold mixed h s ≡ mixed_all h s
unfolding mixed_all
mixed-fold h [] = refl
mixed-fold h (b ∷ s) = mixed-fold (mixed h b) s
