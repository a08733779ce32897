-- The first line at which something holds, and the first at which something is met again, whatever it is. Assumes nothing.
use Prim.Native.Nat.{ℕ, zero, suc, ◌<◌, ◌≤◌}
use mathlib.Core.Bool.{Bool, true, false, cond, true≢false}
use mathlib.Core.List.{List, [], ◌∷◌}
use mathlib.Core.Logic.{◌⊎◌, inl, inr}
use mathlib.Core.Path.{◌≡◌, refl, sym, ◌∙◌}
use native.Mathlib.Omega.{arith}
use lib.ListN.{length, get_or}
use Rattle.text.proofs.Cases.{eq-or-ne}
use Rattle.duplicates.specs.Words.{earlier}
use Rattle.duplicates.specs.Again.{FirstLine}
use Rattle.duplicates.specs.Inside.{MetAgain}
use Rattle.duplicates.proofs.Lines.{EarlierIs, earlier-is}
use Rattle.duplicates.proofs.Rising.{Rising, no_more, one_more, rising-low}

-- ---- the first line for one of two things, and for the same in other words
module _ {P Q : ℕ → Type 0} {a b : ℕ} (f : FirstLine P a) (g : FirstLine Q b) where
  first_of : (r : ℕ) → EarlierIs a b r → FirstLine (λ l. P l ⊎ Q l) r
  first_of r e = record { none = λ z l x. never z l x; some = λ n. one n e.one; least = λ l x. low l x }
    where
      never : r ≡ 0 → (l : ℕ) → P l ⊎ Q l → ⊥
      never z l (inl p) = (e.first (λ (y : a ≡ 0). f.none y l p)).0 z
      never z l (inr q) = (e.second (λ (y : b ≡ 0). g.none y l q)).0 z

      one : (r ≡ 0 → ⊥) → (r ≡ a) ⊎ (r ≡ b) → P r ⊎ Q r
      one n (inl q) = inl (rw q (f.some (λ z. n (q ∙ z))))
      one n (inr q) = inr (rw q (g.some (λ z. n (q ∙ z))))

      low : (l : ℕ) → P l ⊎ Q l → r ≤ l
      low l (inl p) = let x = (e.first (λ (y : a ≡ 0). f.none y l p)).1 in let y = f.least l p in omega arith
      low l (inr q) = let x = (e.second (λ (y : b ≡ 0). g.none y l q)).1 in let y = g.least l q in omega arith

  pub first_either : FirstLine (λ l. P l ⊎ Q l) (earlier a b)
  first_either = first_of (earlier a b) (earlier-is a b)

pub first-as : {P Q : ℕ → Type 0} {a : ℕ} → ((l : ℕ) → P l → Q l) → ((l : ℕ) → Q l → P l) → FirstLine P a → FirstLine Q a
first-as {P} {Q} {a} to from f = record { none = λ z l q. f.none z l (from l q); some = λ n. to a (f.some n); least = λ l q. f.least l (from l q) }

-- nothing holds at any line
pub first-none : {P : ℕ → Type 0} → ((l : ℕ) → P l → ⊥) → FirstLine P 0
first-none n = record { none = λ z l p. n l p; some = λ m. absurd (m refl); least = λ l p. absurd (n l p) }

-- two lines that are the first for the same are the same
pub first-unique : {P Q : ℕ → Type 0} {a b : ℕ} → ((l : ℕ) → P l → Q l) → ((l : ℕ) → Q l → P l) → FirstLine P a → FirstLine Q b → a ≡ b
first-unique {P} {Q} {a} {b} to from f g = go (eq-or-ne a 0) (eq-or-ne b 0)
  where
    go : (a ≡ 0) ⊎ (a ≡ 0 → ⊥) → (b ≡ 0) ⊎ (b ≡ 0 → ⊥) → a ≡ b
    go (inl y) (inl z) = y ∙ sym z
    go (inl y) (inr n) = absurd (f.none y b (from b (g.some n)))
    go (inr n) (inl z) = absurd (g.none z a (to a (f.some n)))
    go (inr n) (inr m) = let x = f.least b (from b (g.some m)) in let y = g.least a (to a (f.some n)) in omega arith

-- ---- the line of the first thing for which something holds, and of the first that is the same as one before it; 0 if there is none
unfoldable pub next_such : {A : Type 0} → (A → ℕ) → (A → Bool) → List A → ℕ
next_such line holds [] = 0
next_such line holds (x ∷ xs) = cond (holds x) (line x) (next_such line holds xs)

unfoldable pub again_such : {A : Type 0} → (A → ℕ) → (A → A → Bool) → List A → ℕ
again_such line same [] = 0
again_such line same (x ∷ xs) = earlier (next_such line (same x) xs) (again_such line same xs)

-- thing j is such a one, on this line
pub record FoundAt {A : Type 0} (line : A → ℕ) (d : A) (holds : A → Bool) (xs : List A) (l : ℕ) : Type 0 where
  pub j : ℕ
  pub there : j < length xs
  pub such : holds (get_or xs j d) ≡ true
  pub here : l ≡ line (get_or xs j d)

module _ {A : Type 0} (line : A → ℕ) (d : A) where
  -- ---- the first for which something holds
  module _ (holds : A → Bool) where
    not-among : (l : ℕ) → FoundAt line d holds [] l → ⊥
    not-among l f = let t = f.there in absurd (omega arith)

    module _ (x : A) (xs : List A) where
      found-further : (l : ℕ) → FoundAt line d holds xs l → FoundAt line d holds (x ∷ xs) l
      found-further l f = let t = f.there in record { j = suc f.j; there = omega arith; such = f.such; here = f.here }

      -- behind one for which it does not
      found-behind : holds x ≡ false → (l : ℕ) → FoundAt line d holds (x ∷ xs) l → FoundAt line d holds xs l
      found-behind e l f = go f.j f.there f.such f.here
        where
          go : (j : ℕ) → j < suc (length xs) → holds (get_or (x ∷ xs) j d) ≡ true → l ≡ line (get_or (x ∷ xs) j d) → FoundAt line d holds xs l
          go zero t s h = absurd (true≢false (sym s ∙ e))
          go (suc j) t s h = record { j = j; there = omega arith; such = s; here = h }

    pub next-is : {m : ℕ} {xs : List A} → 1 ≤ m → Rising line m xs → FirstLine (FoundAt line d holds xs) (next_such line holds xs)
    unfolding next_such
    next-is p no_more = first-none not-among
    next-is p (one_more {x = x} {xs = xs} l r) = go (holds x) refl (next-is (omega arith) r)
      where
        go : (b : Bool) → holds x ≡ b → FirstLine (FoundAt line d holds xs) (next_such line holds xs) → FirstLine (FoundAt line d holds (x ∷ xs)) (cond b (line x) (next_such line holds xs))
        go true e f =
            let y : line x ≤ line x = omega arith in
            let o : Rising line (line x) (x ∷ xs) = one_more y r in
            record {
              none = λ (z : line x ≡ 0) k f. absurd (omega arith);
              some = λ n. record { j = 0; there = omega arith; such = e; here = refl };
              least = λ k f. rw f.here (rising-low d o f.j f.there);
            }
        go false e f = first-as (found-further x xs) (found-behind x xs e) f

  -- ---- the first that is the same as one before it
  module _ (same : A → A → Bool) where
    none-again : (l : ℕ) → MetAgain line d same [] l → ⊥
    none-again l g = let t = g.there in absurd (omega arith)

    -- the same as the first, or as one behind it
    module _ (x : A) (xs : List A) where
      join : (l : ℕ) → FoundAt line d (same x) xs l ⊎ MetAgain line d same xs l → MetAgain line d same (x ∷ xs) l
      join l (inl f) =
          let t = f.there in
          record { i = 0; j = suc f.j; before = omega arith; there = omega arith; alike = f.such; here = f.here }
      join l (inr g) =
          let b = g.before in
          let t = g.there in
          record { i = suc g.i; j = suc g.j; before = omega arith; there = omega arith; alike = g.alike; here = g.here }

      part : (l : ℕ) → MetAgain line d same (x ∷ xs) l → FoundAt line d (same x) xs l ⊎ MetAgain line d same xs l
      part l g = go g.i g.j g.before g.there g.alike g.here
        where
          go : (i j : ℕ) → i < j → j < suc (length xs) → same (get_or (x ∷ xs) i d) (get_or (x ∷ xs) j d) ≡ true → l ≡ line (get_or (x ∷ xs) j d)
              → FoundAt line d (same x) xs l ⊎ MetAgain line d same xs l
          go i zero b t s h = absurd (omega arith)
          go zero (suc j) b t s h = inl (record { j = j; there = omega arith; such = s; here = h })
          go (suc i) (suc j) b t s h = inr (record { i = i; j = j; before = omega arith; there = omega arith; alike = s; here = h })

    pub again-first : {m : ℕ} {xs : List A} → 1 ≤ m → Rising line m xs → FirstLine (MetAgain line d same xs) (again_such line same xs)
    unfolding again_such
    again-first p no_more = first-none none-again
    again-first p (one_more {x = x} {xs = xs} l r) = first-as (join x xs) (part x xs) (first_either (next-is (same x) (omega arith) r) (again-first (omega arith) r))
