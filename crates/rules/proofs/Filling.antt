-- Lengths filled into the rows of blocks: the loop, and what the table then holds. Assumes nothing.
use Prim.Native.Nat.{ℕ, zero, suc, ◌+◌, ◌-◌, ◌*◌, ◌/◌, ◌≤◌, ◌<◌}
use mathlib.Core.Bool.{Bool, true, false, cond, ◌&&◌}
use mathlib.Core.List.{List}
use mathlib.Core.Logic.{⊎_elim}
use mathlib.Core.Path.{◌≡◌, refl, sym, ap, ◌∙◌}
use native.Mathlib.Nat.{eq-or-lt_of_le}
use native.Mathlib.Numerals.{add-one}
use native.Mathlib.Omega.{arith}
use borrow.Author.Tests.{lt-ltb, le-ltb}
use lib.Dec.{ltb}
use lib.IntN.{ℤ, pos}
use lib.ListN.{length, set, length-set}
use lib.Seq.{get_or-set_same, get_or-set_other}
use Rattle.signed.specs.Signed.{same_z}
use Rattle.text.proofs.Cases.{eq-or-ne}
use Rattle.unit.specs.declared.Rasters.{Rasters}
use Rattle.shape.specs.declared.Edition.{Edition}
use Rattle.tables.specs.Tables.{number_at}
use Rattle.blocks.specs.Blocks.{is_block}
use Rattle.rules.specs.Filled.{length_number, with_length, filled}
use Rattle.rules.proofs.Alike.{Alike, block_same}

-- ---- a number that is set, and the others
number-other : (table : List ℤ) (k : ℕ) (z : ℤ) (j c : ℕ) → (k * 12 + 9 ≡ j * 12 + c → ⊥) → number_at (set table (k * 12 + 9) z) j c ≡ number_at table j c
unfolding number_at
number-other table k z j c h = rw (length-set table (k * 12 + 9) z, get_or-set_other table (k * 12 + 9) (j * 12 + c) z (pos 0) (λ e. h (sym e)))

number-set : (table : List ℤ) (k : ℕ) (z : ℤ) → k < length table / 12 → number_at (set table (k * 12 + 9) z) k 9 ≡ z
unfolding number_at
number-set table k z h = rw (length-set table (k * 12 + 9) z, lt-ltb k (length table / 12) h, get_or-set_same table (k * 12 + 9) z (pos 0) (omega arith))

module _ (e : Edition) (q : Rasters) (rows : List ℤ) (n : ℕ) (samples : List ℤ) where
  -- ---- one row
  module _ (table : List ℤ) (k : ℕ) where
    pub row-past : length table / 12 ≤ k → table ≡ with_length e q rows n samples table k
    unfolding with_length
    row-past h = rw (le-ltb k (length table / 12) h)

    module _ (kind : ℤ) (p : kind ≡ number_at rows k 0) where
      pub row_block : k < length table / 12 → same_z kind (pos 1) ≡ true → (ns : ℤ) → ns ≡ length_number e q rows n samples k
          → set table (k * 12 + 9) ns ≡ with_length e q rows n samples table k
      unfolding with_length
      row_block h f ns m = rw (lt-ltb k (length table / 12) h, ← p, f, m)

      pub row_other : same_z kind (pos 1) ≡ false → table ≡ with_length e q rows n samples table k
      unfolding with_length
      row_other f = rw (← p, f) (neither (ltb k (length table / 12)))
        where
          neither : (b : Bool) → table ≡ cond (b && false) (set table (k * 12 + 9) (length_number e q rows n samples k)) table
          neither true = refl
          neither false = refl

    -- the table is set at one place, or left
    either : (P : List ℤ → Type 0) → P (set table (k * 12 + 9) (length_number e q rows n samples k)) → P table → P (with_length e q rows n samples table k)
    unfolding with_length
    either P put left = go (ltb k (length table / 12) && is_block rows k)
      where
        go : (b : Bool) → P (cond b (set table (k * 12 + 9) (length_number e q rows n samples k)) table)
        go true = put
        go false = left

    long_kept : length (with_length e q rows n samples table k) ≡ length table
    long_kept = either (λ (t : List ℤ). length t ≡ length table) (length-set table (k * 12 + 9) (length_number e q rows n samples k)) refl

    other-kept : (j c : ℕ) → (k * 12 + 9 ≡ j * 12 + c → ⊥) → number_at (with_length e q rows n samples table k) j c ≡ number_at table j c
    other-kept j c h = either (λ (t : List ℤ). number_at t j c ≡ number_at table j c) (number-other table k (length_number e q rows n samples k) j c h) refl

  -- ---- one row after another, where lengths are computed from the table as it stands
  pub record Filling (table : List ℤ) (k : ℕ) : Type 0 where
    pub inside : k ≤ n
    pub long : length table ≡ length rows
    pub alike : Alike table rows
    pub same : filled e q rows n samples table k (n - k) ≡ filled e q rows n samples rows 0 n

  pub fill_start : Filling rows 0
  fill_start = record { inside = omega arith; long = refl; alike = λ k c h. refl; same = let z : n - 0 ≡ n = omega arith in rw z }

  -- lengths from the table are those from the rows
  alike-row : (table : List ℤ) → Alike table rows → (k : ℕ) → with_length e q table n samples table k ≡ with_length e q rows n samples table k
  unfolding with_length length_number
  alike-row table a k = rw (block_same table rows a n samples q e k, a k 0 (omega arith))

  pub fill-turn : (table after : List ℤ) (k : ℕ) → Filling table k → k < n → after ≡ with_length e q table n samples table k → Filling after (k + 1)
  unfolding filled
  fill-turn table after k w h p =
      let left : n - k ≡ suc (n - suc k) = omega arith in
      let here : after ≡ with_length e q rows n samples table k = p ∙ alike-row table w.alike k in
      record {
        inside = omega arith;
        long = ap length here ∙ long_kept table k ∙ w.long;
        alike = λ j c (l : c < 9). ap (λ (t : List ℤ). number_at t j c) here ∙ other-kept table k j c (λ (x : k * 12 + 9 ≡ j * 12 + c). omega arith) ∙ w.alike j c l;
        same = rw (here, add-one k) (rw left at w.same);
      }

  pub fill_end : (table : List ℤ) (k : ℕ) → Filling table k → n ≤ k → table ≡ filled e q rows n samples rows 0 n
  unfolding filled
  fill_end table k w h = let none : n - k ≡ 0 = omega arith in rw none at w.same

  -- ---- what the table then holds: numbers other than the tenth as they were
  pub filled-other : (m : ℕ) (table : List ℤ) (k j c : ℕ) → c < 12 → (c ≡ 9 → ⊥) → number_at (filled e q rows n samples table k m) j c ≡ number_at table j c
  unfolding filled
  filled-other zero table k j c l h = refl
  filled-other (suc m) table k j c l h =
      filled-other m (with_length e q rows n samples table k) (suc k) j c l h ∙ other-kept table k j c (λ (x : k * 12 + 9 ≡ j * 12 + c). h (omega arith))

  -- rows before the first that is filled, too
  filled-before : (m : ℕ) (table : List ℤ) (k j : ℕ) → j < k → number_at (filled e q rows n samples table k m) j 9 ≡ number_at table j 9
  unfolding filled
  filled-before zero table k j l = refl
  filled-before (suc m) table k j l =
      filled-before m (with_length e q rows n samples table k) (suc k) j (omega arith) ∙ other-kept table k j 9 (λ (x : k * 12 + 9 ≡ j * 12 + 9). omega arith)

  -- the tenth of a block among the rows is its length
  pub filled-block : (m : ℕ) (table : List ℤ) (k j : ℕ) → k ≤ j → j < k + m → j < length table / 12 → is_block rows j ≡ true
      → number_at (filled e q rows n samples table k m) j 9 ≡ length_number e q rows n samples j
  unfolding filled
  filled-block zero table k j a b h f = absurd (omega arith)
  filled-block (suc m) table k j a b h f =
      ⊎_elim first (λ (l : k < j). filled-block m (with_length e q rows n samples table k) (suc k) j l (omega arith) (rw (long_kept table k) h) f) (eq-or-lt_of_le a)
    where
      here : number_at (with_length e q rows n samples table j) j 9 ≡ length_number e q rows n samples j
      here = rw (← row_block table j (number_at rows j 0) refl h f (length_number e q rows n samples j) refl) (number-set table j (length_number e q rows n samples j) h)

      first : k ≡ j → number_at (filled e q rows n samples (with_length e q rows n samples table k) (suc k) m) j 9 ≡ length_number e q rows n samples j
      first x = rw x (filled-before m (with_length e q rows n samples table j) (suc j) j (omega arith) ∙ here)

  -- and that of any other row is as it was
  pub filled_none : (m : ℕ) (table : List ℤ) (k j : ℕ) → is_block rows j ≡ false → number_at (filled e q rows n samples table k m) j 9 ≡ number_at table j 9
  unfolding filled
  filled_none zero table k j f = refl
  filled_none (suc m) table k j f = filled_none m (with_length e q rows n samples table k) (suc k) j f ∙ ⊎_elim own other (eq-or-ne k j)
    where
      own : k ≡ j → number_at (with_length e q rows n samples table k) j 9 ≡ number_at table j 9
      own x = rw x (rw (← row_other table j (number_at rows j 0) refl f))

      other : (k ≡ j → ⊥) → number_at (with_length e q rows n samples table k) j 9 ≡ number_at table j 9
      other h = other-kept table k j 9 (λ (x : k * 12 + 9 ≡ j * 12 + 9). h (omega arith))
