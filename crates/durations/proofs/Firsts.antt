-- First uses: what is known of a row that is one, and of the first use of what a row lasts. Assumes nothing.
use Prim.Native.Nat.{ℕ, ◌≤◌, ◌<◌}
use mathlib.Core.Bool.{Bool, true, false, not, ◌&&◌, true≢false}
use mathlib.Core.List.{List}
use mathlib.Core.Logic.{⊎_elim}
use mathlib.Core.Path.{◌≡◌, refl, sym, ap, ◌∙◌}
use native.Mathlib.Omega.{arith}
use borrow.Author.Tests.{eq-eqb, ne_eqb, eqb-true, eqb-false, not-true}
use lib.Dec.{eqb}
use lib.IntN.{ℤ}
use Rattle.text.proofs.Cases.{lt-or-ge, and_both}
use Rattle.tables.specs.Tables.{first_such}
use Rattle.tables.proofs.Found.{first-is}
use Rattle.blocks.specs.Blocks.{is_block}
use Rattle.sayable.specs.Sayable.{nanos_at}
use Rattle.durations.specs.Durations.{is_alike, first_use, is_first}

module _ (rows : List ℤ) (n : ℕ) where
  -- ---- rows that last as long have the same first use
  pub first_alike : (j k : ℕ) → nanos_at rows j ≡ nanos_at rows k → first_use rows n j ≡ first_use rows n k
  unfolding first_use is_alike
  first_alike j k e = ap (λ (x : ℕ). first_such (λ (i : ℕ). is_block rows i && eqb (nanos_at rows i) x) 0 n) e

  -- ---- what is known of a row that is a first use
  pub record FirstAt (k : ℕ) : Type 0 where
    pub lasts : nanos_at rows k ≡ 0 → ⊥
    pub own : first_use rows n k ≡ k

  pub first-at : (k : ℕ) → is_first rows n k ≡ true → FirstAt k
  unfolding is_first
  first-at k e =
      let b = and_both (not (eqb (nanos_at rows k) 0)) (eqb (first_use rows n k) k) e in
      record { lasts = eqb-false (nanos_at rows k) 0 (not-true (eqb (nanos_at rows k) 0) b.0); own = eqb-true (first_use rows n k) k b.1 }

  is-first : (k : ℕ) → (nanos_at rows k ≡ 0 → ⊥) → first_use rows n k ≡ k → is_first rows n k ≡ true
  unfolding is_first
  is-first k z e = rw (ne_eqb (nanos_at rows k) 0 z, eq-eqb (first_use rows n k) k e)

  -- two first uses of the same duration are the same row
  pub same_first : (j k : ℕ) → is_first rows n j ≡ true → is_first rows n k ≡ true → nanos_at rows j ≡ nanos_at rows k → j ≡ k
  same_first j k a b e = sym (first-at j a).own ∙ first_alike j k e ∙ (first-at k b).own

  -- ---- the first use of what a row lasts
  used-alike : (k : ℕ) → first_use rows n k < n → is_alike rows k (first_use rows n k) ≡ true
  unfolding first_use
  used-alike k h = (first-is (is_alike rows k) 0 n).here (omega arith)

  pub used-nanos : (k : ℕ) → first_use rows n k < n → nanos_at rows (first_use rows n k) ≡ nanos_at rows k
  unfolding is_alike
  used-nanos k h = let f = first_use rows n k in eqb-true (nanos_at rows f) (nanos_at rows k) (and_both (is_block rows f) (eqb (nanos_at rows f) (nanos_at rows k)) (used-alike k h)).1

  pub used-first : (k : ℕ) → first_use rows n k < n → (nanos_at rows k ≡ 0 → ⊥) → is_first rows n (first_use rows n k) ≡ true
  used-first k h z =
      let e = used-nanos k h in
      is-first (first_use rows n k) (λ (q : nanos_at rows (first_use rows n k) ≡ 0). z (sym e ∙ q)) (first_alike (first_use rows n k) k e)

  -- a block is not before its duration's first use
  alike_self : (k : ℕ) → is_block rows k ≡ true → is_alike rows k k ≡ true
  unfolding is_alike
  alike_self k e = rw (e, eq-eqb (nanos_at rows k) (nanos_at rows k) refl)

  pub used-most : (k : ℕ) → is_block rows k ≡ true → first_use rows n k ≤ k
  unfolding first_use
  used-most k e =
      ⊎_elim (λ (h : k < first_such (is_alike rows k) 0 n). absurd (true≢false (sym (alike_self k e) ∙ (first-is (is_alike rows k) 0 n).before k (omega arith) h))) (λ h. h)
      (lt-or-ge k (first_such (is_alike rows k) 0 n))

  -- what is no block is no first use
  pub not_first : (k : ℕ) → k < n → is_block rows k ≡ false → is_first rows n k ≡ false
  unfolding is_alike
  not_first k h e = go (is_first rows n k) refl
    where
      go : (b : Bool) → is_first rows n k ≡ b → b ≡ false
      go false q = refl
      go true q =
          let own = (first-at k q).own in
          let a : is_alike rows k k ≡ true = rw own at (used-alike k (omega arith)) in
          absurd (true≢false (sym (and_both (is_block rows k) (eqb (nanos_at rows k) (nanos_at rows k)) a).0 ∙ e))
