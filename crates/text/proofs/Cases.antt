-- Tests and their two sides. Assumes nothing.
use Prim.Native.Nat.{ℕ, ◌<◌, ◌≤◌}
use mathlib.Core.Bool.{Bool, true, false, cond, ◌&&◌, ◌||◌, false≢true, true≢false}
use mathlib.Core.Path.{◌≡◌, refl}
use mathlib.Core.Logic.{◌⊎◌, inl, inr}
use lib.Dec.{eqb, ltb}
use borrow.Author.Tests.{ltb-true, ltb-false, eqb-true, eqb-false}

pub true-or-false : (t : Bool) → (t ≡ true) ⊎ (t ≡ false)
true-or-false true = inl refl
true-or-false false = inr refl

pub lt-or-ge : (n m : ℕ) → (n < m) ⊎ (m ≤ n)
lt-or-ge n m = go (ltb n m) refl
  where
    go : (t : Bool) → ltb n m ≡ t → (n < m) ⊎ (m ≤ n)
    go true e = inl (ltb-true n m e)
    go false e = inr (ltb-false n m e)

pub eq-or-ne : (n m : ℕ) → (n ≡ m) ⊎ (n ≡ m → ⊥)
eq-or-ne n m = go (eqb n m) refl
  where
    go : (t : Bool) → eqb n m ≡ t → (n ≡ m) ⊎ (n ≡ m → ⊥)
    go true e = inl (eqb-true n m e)
    go false e = inr (eqb-false n m e)

-- both of two
pub and_both : (x y : Bool) → x && y ≡ true → (x ≡ true) × (y ≡ true)
and_both true y e = (refl, e)
and_both false y e = absurd (false≢true e)

-- none of two
pub or-none : (x y : Bool) → x || y ≡ false → (x ≡ false) × (y ≡ false)
or-none true y e = absurd (true≢false e)
or-none false y e = (refl, e)

-- an answer that is not the other one was picked
pub cond_yes : {A : Type 0} (b : Bool) (x : A) {y z : A} → (y ≡ z → ⊥) → cond b x y ≡ z → (b ≡ true) × (x ≡ z)
cond_yes true x n e = (refl, e)
cond_yes false x n e = absurd (n e)

pub cond_no : {A : Type 0} (b : Bool) {x z : A} (y : A) → (x ≡ z → ⊥) → cond b x y ≡ z → b ≡ false
cond_no true y n e = absurd (n e)
cond_no false y n e = refl
