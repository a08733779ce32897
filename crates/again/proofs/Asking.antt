-- Rows of open classes, asked part by part whether they repeat an ID: the first that does in any part is the first that does. Assumes nothing.
use Prim.Native.Nat.{ℕ, ◌+◌, ◌-◌, ◌%◌, ◌≤◌, ◌<◌}
use mathlib.Core.Bool.{Bool, true, false, true≢false}
use mathlib.Core.List.{List}
use mathlib.Core.Logic.{◌⊎◌, inl, inr, ⊎_elim}
use mathlib.Core.Path.{◌≡◌, refl, sym, ◌∙◌}
use native.Mathlib.Omega.{arith}
use borrow.Author.Tests.{le-ltb}
use lib.IntN.{ℤ}
use lib.ListN.{length}
use Rattle.signed.specs.Signed.{same_z}
use Rattle.signed.proofs.Sign.{same_z-true}
use Rattle.text.proofs.Cases.{lt-or-ge, and_both, true-or-false}
use Rattle.sets.specs.Sets.{kept_of, AllMet, unless_new}
use Rattle.sets.specs.declared.Kept.{Kept}
use Rattle.sets.specs.declared.Kept.TheVariants.{New, Old, Full}
use Rattle.sets.proofs.Passing.{new-unlike, in-own, part_low}
use Rattle.tables.specs.Tables.{first_such, class_at, number_at, is_row_of, first_row, is_again, first_again}
use Rattle.tables.proofs.Found.{such-here, such-further, such-none, first-is}
use Rattle.again.specs.Noting.{is_open, all_ascend}
use Rattle.again.proofs.Noting.{ascend-closed}
use Rattle.again.specs.Inside.{Noted, id_at, key_at, is_asked, again_in}

-- ---- a row repeats nothing where no row before it is of its class and has its ID
not-again : (rows : List ℤ) (k : ℕ) → ((j : ℕ) → j < k → class_at rows j ≡ class_at rows k → id_at rows j ≡ id_at rows k → ⊥) → is_again rows k ≡ false
unfolding is_again first_row is_row_of
not-again rows k none =
    let holds = is_row_of rows (class_at rows k) (number_at rows k 1) in
    let first = first_such holds 0 k in
    le-ltb first k (⊎_elim (λ (l : first < k). absurd (clash first l ((first-is holds 0 k).here (omega arith)))) (λ h. h) (lt-or-ge first k))
  where
    clash : (j : ℕ) → j < k → is_row_of rows (class_at rows k) (number_at rows k 1) j ≡ true → ⊥
    clash j l e =
        let b = and_both (same_z (class_at rows j) (class_at rows k)) (same_z (number_at rows j 1) (number_at rows k 1)) e in
        none j l (same_z-true (class_at rows j) (class_at rows k) b.0) (same_z-true (number_at rows j 1) (number_at rows k 1) b.1)

-- so does a row of a class that is not open
closed-once : (rows : List ℤ) (most : List ℤ) (n : ℕ) → Noted (class_at rows) (id_at rows) most n → (k : ℕ) → k < n → is_open most (class_at rows k) ≡ false → is_again rows k ≡ false
closed-once rows most n a k l o = not-again rows k (a.each k l o).once

-- ---- the first for which something holds is the only place with this
first-only : (holds : ℕ → Bool) (n r : ℕ) → r ≤ n → (r < n → holds r ≡ true) → ((j : ℕ) → j < r → holds j ≡ false) → r ≡ first_such holds 0 n
first-only holds n r few here none =
    let f = first-is holds 0 n in
    let most = f.most in
    let s = first_such holds 0 n in
    let low : s ≤ r = ⊎_elim (λ (l : r < s). absurd (true≢false (sym (here (omega arith)) ∙ f.before r (omega arith) l))) (λ h. h) (lt-or-ge r s) in
    let high : r ≤ s = ⊎_elim (λ (l : s < r). absurd (true≢false (sym (f.here (omega arith)) ∙ none s l))) (λ h. h) (lt-or-ge s r) in
    omega arith

-- ---- where all classes ascend, no row repeats an ID
pub none-again : (most rows : List ℤ) (n : ℕ) → Noted (class_at rows) (id_at rows) most n → all_ascend most ≡ true → n ≡ first_again rows n
unfolding first_again
none-again most rows n a e =
    first-only (is_again rows) n n (omega arith) (λ (h : n < n). absurd (omega arith)) (λ j l. closed-once rows most n a j l (ascend-closed most e (class_at rows j)))

module _ (most rows : List ℤ) (parts part : ℕ) where
  -- ---- a row that is asked for, by the tests of the code
  module _ (k : ℕ) where
    pub again-not : is_asked most rows parts part k ≡ false → false ≡ again_in most rows parts part k
    unfolding again_in
    again-not e = rw e

    again-asked : is_asked most rows parts part k ≡ true → is_again rows k ≡ again_in most rows parts part k
    unfolding again_in
    again-asked e = rw e

  -- ---- so is each row of its class with its ID, and those have one number: one that is new repeats nothing
  module _ (k : ℕ) {places : List ℕ} (a : AllMet (key_at rows) (is_asked most rows parts part) places k) (e : is_asked most rows parts part k ≡ true) where
    new-once : kept_of places (key_at rows k) ≡ New → is_again rows k ≡ false
    unfolding is_asked
    new-once n = not-again rows k (λ j l c i. new-unlike a n j l (rw (c, i) e) (rw (c, i)))

    pub looked-at : {b : Bool} → b ≡ unless_new (kept_of places (key_at rows k)) (is_again rows k) → b ≡ again_in most rows parts part k
    looked-at {b} q = go (kept_of places (key_at rows k)) refl q ∙ again-asked k e
      where
        go : (w : Kept) → kept_of places (key_at rows k) ≡ w → b ≡ unless_new w (is_again rows k) → b ≡ is_again rows k
        go New n p = p ∙ sym (new-once n)
        go Old n p = p
        go Full n p = p

-- ---- the loop over rows that keeps numbers: the first such row is the first of those that are left
pub record Keeping (start : List ℕ) (most rows : List ℤ) (n parts part : ℕ) (places : List ℕ) (k : ℕ) : Type 0 where
  pub few : k ≤ n
  pub long : length places ≡ length start
  pub met : AllMet (key_at rows) (is_asked most rows parts part) places k
  pub same : first_such (again_in most rows parts part) k (n - k) ≡ first_such (again_in most rows parts part) 0 n

module _ {start : List ℕ} {most rows : List ℤ} {n parts part : ℕ} {places : List ℕ} {k : ℕ} (w : Keeping start most rows n parts part places k) where
  pub keeping-hit : k < n → again_in most rows parts part k ≡ true → k ≡ first_such (again_in most rows parts part) 0 n
  keeping-hit h e = such-here (again_in most rows parts part) k n h e ∙ w.same

  pub keeping-turn : k < n → again_in most rows parts part k ≡ false → {after : List ℕ} → length after ≡ length places
      → AllMet (key_at rows) (is_asked most rows parts part) after (k + 1) → Keeping start most rows n parts part after (k + 1)
  keeping-turn h e l a = record { few = omega arith; long = l ∙ w.long; met = a; same = such-further (again_in most rows parts part) k n h e ∙ w.same }

  pub keeping-end : n ≤ k → n ≡ first_such (again_in most rows parts part) 0 n
  keeping-end h = such-none (again_in most rows parts part) k n w.few h ∙ w.same

-- ---- the loop over the parts: the first row of the parts so far, and none before it in them
pub record Best (most rows : List ℤ) (n parts first part : ℕ) : Type 0 where
  pub few : first ≤ n
  pub here : first < n → is_again rows first ≡ true
  pub none : (j : ℕ) → j < first → is_open most (class_at rows j) ≡ true → key_at rows j % parts < part → is_again rows j ≡ false

module _ {most rows : List ℤ} {n parts first part : ℕ} (b : Best most rows n parts first part) where
  pub best-turn : 1 ≤ parts → {r : ℕ} → r ≡ first_such (again_in most rows parts part) 0 first → Best most rows n parts r (part + 1)
  unfolding again_in is_asked
  best-turn some {r} e =
      let holds = again_in most rows parts part in
      let f = rw (← e) at (first-is holds 0 first) in
      let few = b.few in
      let most-there = f.most in
      record {
        few = omega arith;
        here = λ (h : r < n). by_place h (lt-or-ge r first) f.here most-there;
        none = λ j (l : j < r) o h. by_part j (omega arith) o (lt-or-ge (key_at rows j % parts) part) h (f.before j (omega arith) l);
      }
    where
      by_place : r < n → (r < first) ⊎ (first ≤ r) → (r < 0 + first → again_in most rows parts part r ≡ true) → r ≤ 0 + first → is_again rows r ≡ true
      by_place h (inl l) f m = (and_both (is_asked most rows parts part r) (is_again rows r) (f (omega arith))).1
      by_place h (inr l) f m = let s : r ≡ first = omega arith in rw s (b.here (rw s at h))

      by_part : (j : ℕ) → j < first → is_open most (class_at rows j) ≡ true → (key_at rows j % parts < part) ⊎ (part ≤ key_at rows j % parts) → key_at rows j % parts < part + 1
          → again_in most rows parts part j ≡ false → is_again rows j ≡ false
      by_part j l o (inl h) g q = b.none j l o h
      by_part j l o (inr h) g q = rw (o, in-own (key_at rows j) parts (λ (z : parts ≡ 0). omega arith) part (omega arith)) at q

  pub best-end : 1 ≤ parts → Noted (class_at rows) (id_at rows) most n → parts ≤ part → first ≡ first_again rows n
  unfolding first_again
  best-end some a h = first-only (is_again rows) n first b.few b.here (λ j l. go j l (true-or-false (is_open most (class_at rows j))))
    where
      go : (j : ℕ) → j < first → (is_open most (class_at rows j) ≡ true) ⊎ (is_open most (class_at rows j) ≡ false) → is_again rows j ≡ false
      go j l (inl o) = let p = part_low (key_at rows j) parts (λ (z : parts ≡ 0). omega arith) in b.none j l o (omega arith)
      go j l (inr o) = let few = b.few in closed-once rows most n a j (omega arith) o
