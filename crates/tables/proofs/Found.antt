-- The first row for which something holds, and what is known of the row that is found. Assumes nothing.
use Prim.Native.Nat.{ℕ, zero, suc, ◌+◌, ◌-◌, ◌≤◌, ◌<◌}
use mathlib.Core.Bool.{Bool, true, false, cond, true≢false}
use mathlib.Core.List.{List}
use mathlib.Core.Logic.{◌⊎◌, inl, inr, ⊎_elim}
use mathlib.Core.Path.{◌≡◌, refl, sym, ◌∙◌}
use native.Mathlib.Nat.{eq-or-lt_of_le}
use native.Mathlib.Numerals.{add-one}
use native.Mathlib.Omega.{arith}
use borrow.Author.Tests.{ltb-false}
use Rattle.std.specs.Coded.{Π_prop, Coded-set, coded_ℕ}
use lib.IntN.{ℤ}
use Rattle.signed.specs.Signed.{same_z}
use Rattle.signed.proofs.Sign.{same_z-refl, same_z-true}
use Rattle.text.proofs.Cases.{lt-or-ge, and_both}
use Rattle.tables.specs.Tables.{first_such, class_at, number_at, is_row_of, first_row, is_again, first_again, NoneAgain, OnlyRow}

module _ (holds : ℕ → Bool) where
  -- ---- a loop over rows: with k of n passed, the first is among those left
  pub such-start : (n : ℕ) → first_such holds 0 (n - 0) ≡ first_such holds 0 n
  such-start n = let e : n - 0 ≡ n = omega arith in rw e

  module _ (k n : ℕ) (h : k < n) where
    left : n - k ≡ suc (n - (k + 1))
    left = omega arith

    pub such-here : holds k ≡ true → k ≡ first_such holds k (n - k)
    unfolding first_such
    such-here e = rw (left, e)

    pub such-further : holds k ≡ false → first_such holds (k + 1) (n - (k + 1)) ≡ first_such holds k (n - k)
    unfolding first_such
    such-further e = rw (left, e, add-one k)

  pub such-none : (k n : ℕ) → k ≤ n → n ≤ k → n ≡ first_such holds k (n - k)
  unfolding first_such
  such-none k n h l = let e : n - k ≡ 0 = omega arith in rw e (omega arith)

  -- ---- it is one of the rows, it holds there, and for none before
  pub record FirstIs (k m r : ℕ) : Type 0 where
    pub later : k ≤ r
    pub most : r ≤ k + m
    pub here : r < k + m → holds r ≡ true
    pub before : (j : ℕ) → k ≤ j → j < r → holds j ≡ false

  pub first-is : (k m : ℕ) → FirstIs k m (first_such holds k m)
  unfolding first_such
  first-is k zero =
      record { later = omega arith; most = omega arith; here = λ (h : k < k + 0). absurd (omega arith); before = λ j a (b : j < k). absurd (omega arith) }
  first-is k (suc m) = go (holds k) refl (first-is (suc k) m)
    where
      go : (b : Bool) → holds k ≡ b → FirstIs (suc k) m (first_such holds (suc k) m) → FirstIs k (suc m) (cond b k (first_such holds (suc k) m))
      go true e f = record { later = omega arith; most = omega arith; here = λ h. e; before = λ j a (b : j < k). absurd (omega arith) }
      go false e f =
          let later = f.later in
          let most = f.most in
          record {
            later = omega arith;
            most = omega arith;
            here = λ (h : first_such holds (suc k) m < k + suc m). f.here (omega arith);
            before = λ j a b. by_place j b (eq-or-lt_of_le a);
          }
        where
          by_place : (j : ℕ) → j < first_such holds (suc k) m → (k ≡ j) ⊎ (k < j) → holds j ≡ false
          by_place j b (inl q) = rw (← q) e
          by_place j b (inr l) = f.before j l b

-- ---- rows that repeat no ID of their class are each the first of their class with their ID
row-self : (rows : List ℤ) (k : ℕ) → is_row_of rows (class_at rows k) (number_at rows k 1) k ≡ true
unfolding is_row_of
row-self rows k = rw (same_z-refl (class_at rows k), same_z-refl (number_at rows k 1))

module _ (holds : ℕ → Bool) (k n : ℕ) (l : k < n) where
  not-before : ((j : ℕ) → j < k → holds j ≡ false) → k ≤ first_such holds 0 n
  not-before none =
      let f = first-is holds 0 n in
      ⊎_elim (λ (h : first_such holds 0 n < k). absurd (true≢false (sym (f.here (omega arith)) ∙ none (first_such holds 0 n) h))) (λ h. h) (lt-or-ge (first_such holds 0 n) k)

  not_after : holds k ≡ true → first_such holds 0 n ≤ k
  not_after e =
      let f = first-is holds 0 n in
      ⊎_elim (λ (h : k < first_such holds 0 n). absurd (true≢false (sym e ∙ f.before k (omega arith) h))) (λ h. h) (lt-or-ge k (first_such holds 0 n))

pub none-again : (rows : List ℤ) (n : ℕ) → ((k : ℕ) → k < n → is_again rows k ≡ false) → NoneAgain rows n
unfolding NoneAgain is_again first_row
none-again rows n none k l =
    let holds = is_row_of rows (class_at rows k) (number_at rows k 1) in
    let g = first-is holds 0 k in
    let own : k ≤ first_such holds 0 k = ltb-false (first_such holds 0 k) k (none k l) in
    let low = not-before holds k n l (λ j (h : j < k). g.before j (omega arith) (omega arith)) in
    let high = not_after holds k n l (row-self rows k) in
    omega arith

-- ---- where none does, the row that is found is the only one
pub found-only : (rows : List ℤ) (n : ℕ) (class id : ℤ) → NoneAgain rows n → first_row rows n class id < n → OnlyRow rows n class id (first_row rows n class id)
unfolding first_row is_row_of NoneAgain
found-only rows n class id once h =
    let f = first-is (is_row_of rows class id) 0 n in
    let z : 0 + n ≡ n = omega arith in
    record {
      there = h;
      is = f.here (rw z h);
      only = λ k l e. same k l (and_both (same_z (class_at rows k) class) (same_z (number_at rows k 1) id) e);
    }
  where
    same : (k : ℕ) → k < n → (same_z (class_at rows k) class ≡ true) × (same_z (number_at rows k 1) id ≡ true) → k ≡ first_such (is_row_of rows class id) 0 n
    same k l b = sym (rw (same_z-true (class_at rows k) class b.0, same_z-true (number_at rows k 1) id b.1) at (once k l))

-- a row of the class with the ID is the first one, where none repeats one
pub row-once : (rows : List ℤ) (n : ℕ) (class id : ℤ) (k : ℕ) → NoneAgain rows n → k < n → is_row_of rows class id k ≡ true → k ≡ first_row rows n class id
unfolding NoneAgain is_row_of
row-once rows n class id k once h e =
    let b = and_both (same_z (class_at rows k) class) (same_z (number_at rows k 1) id) e in
    sym (rw (same_z-true (class_at rows k) class b.0, same_z-true (number_at rows k 1) id b.1) at (once k h))

-- that none repeats one has one proof, so that a struct can hold it
pub NoneAgain-prop : (rows : List ℤ) (n : ℕ) → IsProp (NoneAgain rows n)
unfolding NoneAgain
NoneAgain-prop rows n = Π_prop (λ k. Π_prop (λ h. Coded-set coded_ℕ (first_row rows n (class_at rows k) (number_at rows k 1)) k))

-- where the first row that repeats one is none of n rows, none does
pub first-none : (rows : List ℤ) (n : ℕ) {r : ℕ} → r ≡ first_again rows n → n ≤ r → NoneAgain rows n
unfolding first_again
first-none rows n e h = none-again rows n (λ k l. (first-is (is_again rows) 0 n).before k (omega arith) (omega arith))
