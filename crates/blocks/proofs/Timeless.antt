-- What takes no time: rows of no class, labels, and, where no row is a trigger, chains. Assumes nothing.
use Prim.Native.Nat.{ℕ, zero, suc, ◌≤◌, ◌<◌, max}
use mathlib.Core.Bool.{Bool, true, false, cond, ◌&&◌, true≢false}
use mathlib.Core.List.{List}
use mathlib.Core.Logic.{◌⊎◌, inl, inr, ⊎_elim}
use mathlib.Core.Path.{◌≡◌, refl, sym, ap, ◌∙◌}
use native.Mathlib.Omega.{arith}
use borrow.Author.Tests.{lt-ltb, le-ltb, ltb-false}
use lib.Dec.{ltb}
use lib.IntN.{ℤ, pos, nat_abs}
use Rattle.signed.specs.Signed.{same_z}
use Rattle.signed.proofs.Sign.{same_z-refl, same_z-true}
use Rattle.text.proofs.Cases.{lt-or-ge, and_both}
use Rattle.unit.specs.declared.Rasters.{Rasters}
use Rattle.tables.specs.Tables.{first_such, number_at, class_of, class_at, is_row_of, first_row, met_row, met_number}
use Rattle.tables.proofs.Found.{first-is}
use Rattle.chains.specs.Chains.{next_entry}
use Rattle.references.specs.References.{code_ref, extension_ref}
use Rattle.lengths.specs.Lengths.{length_of, length_at}
use Rattle.blocks.specs.Blocks.{met_length, entry_length, chain_length}
use Rattle.blocks.specs.Inside.{is_trigger, has_triggers, Timed}

-- a row has the kind that its class is numbered by, or it is a label, unless it is a gradient
class-kind : (kind second : ℤ) (m : ℕ) → (m ≡ 3 → ⊥) → class_of kind second ≡ pos m → (kind ≡ pos m) ⊎ (kind ≡ pos 10)
unfolding class_of
class-kind kind second m h = go (same_z kind (pos 4)) (same_z kind (pos 10) && same_z second (pos 1)) refl
  where
    go : (a b : Bool) → same_z kind (pos 10) && same_z second (pos 1) ≡ b → cond a (pos 3) (cond b (pos 12) kind) ≡ pos m → (kind ≡ pos m) ⊎ (kind ≡ pos 10)
    go true b f e = absurd (h (sym (ap nat_abs e)))
    go false true f e = inr (same_z-true kind (pos 10) (and_both (same_z kind (pos 10)) (same_z second (pos 1)) f).0)
    go false false f e = inl e

module _ (q : Rasters) (rows : List ℤ) (n : ℕ) (samples : List ℤ) where
  -- ---- a class whose rows take no time
  abbrev Timeless : ℕ → Type 0
  Timeless m = (k : ℕ) → k < n → number_at rows k 0 ≡ pos m → length_at q rows n samples k ≡ 0

  row-timeless : (m : ℕ) → (m ≡ 3 → ⊥) → Timeless m → (id : ℤ) (k : ℕ) → k < n → is_row_of rows (pos m) id k ≡ true → length_at q rows n samples k ≡ 0
  unfolding is_row_of class_at length_at length_of same_z
  row-timeless m h none id k l e =
      let b = and_both (same_z (class_of (number_at rows k 0) (number_at rows k 2)) (pos m)) (same_z (number_at rows k 1) id) e in
      ⊎_elim (none k l) (λ (p : number_at rows k 0 ≡ pos 10). rw p)
      (class-kind (number_at rows k 0) (number_at rows k 2) m h (same_z-true (class_of (number_at rows k 0) (number_at rows k 2)) (pos m) b.0))

  class-timeless : (m : ℕ) → (m ≡ 3 → ⊥) → Timeless m → (id : ℤ) → met_length q rows n samples (pos m) id ≡ 0
  unfolding met_length met_row first_row
  class-timeless m h none id = go (same_z id (pos 0))
    where
      go : (b : Bool) → cond (ltb (cond b n (first_such (is_row_of rows (pos m) id) 0 n)) n) (length_at q rows n samples (cond b n (first_such (is_row_of rows (pos m) id) 0 n))) 0 ≡ 0
      go true = rw (le-ltb n n (omega arith))
      go false =
          let k = first_such (is_row_of rows (pos m) id) 0 n in
          ⊎_elim (λ (l : k < n). rw (lt-ltb k n l) (row-timeless m h none id k l ((first-is (is_row_of rows (pos m) id) 0 n).here (omega arith)))) (λ (l : n ≤ k). rw (le-ltb k n l)) (lt-or-ge k n)

  -- ---- a reference of no class, to a label, and to a label that is incremented
  pub no-class : (id : ℤ) → met_length q rows n samples (pos 0) id ≡ 0
  unfolding length_at length_of same_z
  no-class = class-timeless 0 (λ (z : 0 ≡ 3). omega arith) (λ k l p. rw p)

  set-timeless : (id : ℤ) → met_length q rows n samples (pos 10) id ≡ 0
  unfolding length_at length_of same_z
  set-timeless = class-timeless 10 (λ (z : 10 ≡ 3). omega arith) (λ k l p. rw p)

  increment-timeless : (id : ℤ) → met_length q rows n samples (pos 12) id ≡ 0
  unfolding length_at length_of same_z
  increment-timeless = class-timeless 12 (λ (z : 12 ≡ 3). omega arith) (λ k l p. rw p)

  -- what an entry refers to takes no time, if triggers take none or it is none
  code-timeless : (code : ℤ) → (same_z (pos (code_ref code)) (pos 9) ≡ true → (id : ℤ) → met_length q rows n samples (pos 9) id ≡ 0) → (id : ℤ)
      → met_length q rows n samples (pos (code_ref code)) id ≡ 0
  unfolding code_ref same_z
  code-timeless code = go (same_z code (pos 1)) (same_z code (pos 2)) (same_z code (pos 3))
    where
      go : (a b c : Bool) → (same_z (pos (cond a 9 (cond b 10 (cond c 12 0)))) (pos 9) ≡ true → (id : ℤ) → met_length q rows n samples (pos 9) id ≡ 0) → (id : ℤ)
          → met_length q rows n samples (pos (cond a 9 (cond b 10 (cond c 12 0)))) id ≡ 0
      go true b c h = h refl
      go false true c h = set-timeless
      go false false true h = increment-timeless
      go false false false h = no-class

  pub entry-timeless : (k : ℕ) {type class held : ℤ} → type ≡ number_at rows k 2 → class ≡ extension_ref rows n type → held ≡ class → same_z held (pos 9) ≡ false
      → entry_length q rows n samples k ≡ 0
  unfolding entry_length extension_ref
  entry-timeless k t c m f =
      let code = met_number rows n (pos 8) (number_at rows k 2) 2 in
      code-timeless code (λ e. absurd (true≢false (sym e ∙ (rw (m, c, t) at f)))) (number_at rows k 3)

  -- ---- where no row is a trigger, a chain takes none
  module _ (none : has_triggers rows n ≡ false) where
    no-trigger : (k : ℕ) → k < n → same_z (number_at rows k 0) (pos 9) ≡ false
    unfolding has_triggers is_trigger
    no-trigger k l =
        let all : n ≤ first_such (is_trigger rows) 0 n = ltb-false (first_such (is_trigger rows) 0 n) n none in
        (first-is (is_trigger rows) 0 n).before k (omega arith) (omega arith)

    trigger-timeless : (id : ℤ) → met_length q rows n samples (pos 9) id ≡ 0
    trigger-timeless = class-timeless 9 (λ (z : 9 ≡ 3). omega arith) (λ k l p. absurd (true≢false (sym (rw p (same_z-refl (pos 9))) ∙ no-trigger k l)))

    entry-untimed : (k : ℕ) → entry_length q rows n samples k ≡ 0
    unfolding entry_length extension_ref
    entry-untimed k = code-timeless (met_number rows n (pos 8) (number_at rows k 2) 2) (λ e. trigger-timeless) (number_at rows k 3)

    pub chain-untimed : (left k : ℕ) → chain_length q rows n samples left k ≡ 0
    unfolding chain_length
    chain-untimed zero k = refl
    chain-untimed (suc left) k = rw (entry-untimed k, chain-untimed left (next_entry rows n k)) (same (ltb k n))
      where
        same : (b : Bool) → cond b (max 0 0) 0 ≡ 0
        same true = refl
        same false = refl

-- ---- the flag that says whether any row is a trigger: as it was worked out, and where it says yes
pub timed-told : (rows : List ℤ) (n : ℕ) {timed : Bool} → timed ≡ has_triggers rows n → Timed timed rows n
unfolding Timed
timed-told rows n p = λ e. sym p ∙ e

pub timed-all : (rows : List ℤ) (n : ℕ) → Timed true rows n
unfolding Timed
timed-all rows n = λ e. absurd (true≢false e)

-- ---- rows, one after another: the first trigger is the first of those that are left
module _ (rows : List ℤ) (n : ℕ) where
  pub triggers-yes : (k : ℕ) → k ≡ first_such (is_trigger rows) 0 n → k < n → true ≡ has_triggers rows n
  unfolding has_triggers
  triggers-yes k p h = rw (← p, lt-ltb k n h)

  pub triggers-no : n ≡ first_such (is_trigger rows) 0 n → false ≡ has_triggers rows n
  unfolding has_triggers
  triggers-no p = rw (← p, le-ltb n n (omega arith))
