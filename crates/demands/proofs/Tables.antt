-- What the table of an accepted file holds, number for number. Assumes nothing.
use Prim.Native.Nat.{ℕ, zero, suc, ◌+◌, ◌*◌, ◌/◌, ◌^◌, min, ◌≤◌, ◌<◌}
use mathlib.Core.Bool.{Bool, true, false, cond, ◌&&◌}
use mathlib.Core.List.{List, [], ◌∷◌}
use mathlib.Core.Logic.{⊎_elim}
use mathlib.Core.Path.{◌≡◌, refl, ap, ◌∙◌}
use native.Mathlib.Omega.{arith}
use borrow.Author.Tests.{eq-eqb, ne_eqb}
use lib.Dec.{eqb, ltb}
use lib.IntN.{ℤ, pos}
use lib.ListN.{length, get_or, set, length-set, length-replicate}
use lib.Seq.{sets, length-sets, get_or-set_other}
use Rattle.text.proofs.Cases.{eq-or-ne}
use Rattle.signed.specs.Signed.{largest}
use Rattle.signed.proofs.Sign.{same_z-true}
use Rattle.unit.specs.declared.Rasters.{Rasters}
use Rattle.shape.specs.declared.Edition.{Edition}
use Rattle.columns.specs.Rows.{row_width}
use Rattle.file.specs.Rows.{Placed, laid_row, laid_rows}
use Rattle.file_tables.specs.Tables.{cells_of}
use Rattle.file_tables.proofs.Stores.{sets_behind}
use Rattle.file_tables.proofs.Laid.{Twelve, row-held, no_row, one-row}
use Rattle.tables.specs.Tables.{number_at}
use Rattle.blocks.specs.Blocks.{block_length, is_block}
use Rattle.rules.specs.Filled.{length_number, with_length, filled}
use Rattle.rules.proofs.Filling.{filled-other, filled-block, filled_none}
use Rattle.reader.specs.Reading.{zeros}
use Rattle.demands.specs.Keeping.{RowsHeld}
use Rattle.demands.proofs.Samples.{zeros-at}

-- ---- rows that are laid: how long the table is, and what stands behind them
row-long : (table cells : List ℤ) (k : ℕ) → length (laid_row table k cells) ≡ length table
unfolding laid_row
row-long table cells k = go (ltb k (length table / row_width))
  where
    go : (b : Bool) → length (cond b (sets table (k * row_width) cells) table) ≡ length table
    go true = length-sets table (k * row_width) cells
    go false = refl

row-past : (table cells : List ℤ) (k i : ℕ) → length cells ≡ 12 → suc k * row_width ≤ i → get_or (laid_row table k cells) i (pos 0) ≡ get_or table i (pos 0)
unfolding laid_row
row-past table cells k i w h = go (ltb k (length table / row_width))
  where
    go : (b : Bool) → get_or (cond b (sets table (k * row_width) cells) table) i (pos 0) ≡ get_or table i (pos 0)
    go true = sets_behind cells table (k * row_width) i (omega arith)
    go false = refl

pub laid-rows-long : (table : List ℤ) (k : ℕ) (rs : List Placed) → length (laid_rows table k rs) ≡ length table
unfolding laid_rows
laid-rows-long table k [] = refl
laid-rows-long table k (r ∷ rs) = laid-rows-long (laid_row table k r.cells) (suc k) rs ∙ row-long table r.cells k

laid-past : {rs : List Placed} → Twelve rs → (table : List ℤ) (k i : ℕ) → (k + length rs) * row_width ≤ i → get_or (laid_rows table k rs) i (pos 0) ≡ get_or table i (pos 0)
unfolding laid_rows
laid-past no_row table k i h = refl
laid-past (one-row {r} {rs} w t) table k i h = laid-past t (laid_row table k r.cells) (suc k) i (omega arith) ∙ row-past table r.cells k i w (omega arith)

-- ---- the same of lengths that are filled in
module _ (e : Edition) (q : Rasters) (rows : List ℤ) (n : ℕ) (samples : List ℤ) where
  one-long : (table : List ℤ) (k : ℕ) → length (with_length e q rows n samples table k) ≡ length table
  unfolding with_length
  one-long table k = go (ltb k (length table / row_width) && is_block rows k)
    where
      go : (b : Bool) → length (cond b (set table (k * row_width + 9) (length_number e q rows n samples k)) table) ≡ length table
      go true = length-set table (k * row_width + 9) (length_number e q rows n samples k)
      go false = refl

  one-past : (table : List ℤ) (k i : ℕ) → suc k * row_width ≤ i → get_or (with_length e q rows n samples table k) i (pos 0) ≡ get_or table i (pos 0)
  unfolding with_length
  one-past table k i h = go (ltb k (length table / row_width) && is_block rows k)
    where
      go : (b : Bool) → get_or (cond b (set table (k * row_width + 9) (length_number e q rows n samples k)) table) i (pos 0) ≡ get_or table i (pos 0)
      go true = get_or-set_other table (k * row_width + 9) i _ (pos 0) (λ (x : i ≡ k * row_width + 9). omega arith)
      go false = refl

  filled-long : (table : List ℤ) (k m : ℕ) → length (filled e q rows n samples table k m) ≡ length table
  unfolding filled
  filled-long table k zero = refl
  filled-long table k (suc m) = filled-long (with_length e q rows n samples table k) (suc k) m ∙ one-long table k

  filled-past : (table : List ℤ) (k m i : ℕ) → (k + m) * row_width ≤ i → get_or (filled e q rows n samples table k m) i (pos 0) ≡ get_or table i (pos 0)
  unfolding filled
  filled-past table k zero i h = refl
  filled-past table k (suc m) i h = filled-past (with_length e q rows n samples table k) (suc k) m i (omega arith) ∙ one-past table k i (omega arith)

zero-plus : (n : ℕ) → 0 + n ≡ n
zero-plus n = omega arith

-- ---- each row its own numbers, a block its ns besides, and zero past them
module _ (e : Edition) (q : Rasters) (rs : List Placed) (twelve : Twelve rs) (room : ℕ) (samples : List ℤ) (fits : length rs ≤ length (zeros room) / 12)
    (short : (k : ℕ) → k < length rs → number_at (laid_rows (zeros room) 0 rs) k 0 ≡ pos 1 → block_length e q (laid_rows (zeros room) 0 rs) (length rs) samples k ≤ 10 ^ 12) where
  abbrev rows : List ℤ
  rows = laid_rows (zeros room) 0 rs

  abbrev table : List ℤ
  table = filled e q rows (length rs) samples rows 0 (length rs)

  abbrev own : ℕ → ℕ → ℤ
  own k c = get_or (cells_of rs k) c (pos 0)

  length-held : (k : ℕ) → k < length rs → is_block rows k ≡ true → length_number e q rows (length rs) samples k ≡ pos (block_length e q rows (length rs) samples k)
  unfolding length_number
  length-held k h b = let m = short k h (same_z-true _ _ b) in let z : min (block_length e q rows (length rs) samples k) largest ≡ block_length e q rows (length rs) samples k = omega arith in ap pos z

  tenth : (k : ℕ) → k < length rs → (b : Bool) → is_block rows k ≡ b → number_at table k 9 ≡ cond (b && true) (pos (block_length e q rows (length rs) samples k)) (own k 9)
  tenth k h true b =
      let m = laid-rows-long (zeros room) 0 rs in
      filled-block e q rows (length rs) samples (length rs) rows 0 k (omega arith) (omega arith) (rw m (omega arith)) b ∙ length-held k h b
  tenth k h false b = filled_none e q rows (length rs) samples (length rs) rows 0 k b ∙ row-held rs twelve (zeros room) fits k 9 h (omega arith)

  other : (k c : ℕ) → k < length rs → c < 12 → (c ≡ 9 → ⊥) → (b : Bool) → number_at table k c ≡ cond (b && false) (pos (block_length e q rows (length rs) samples k)) (own k c)
  other k c h l n true = filled-other e q rows (length rs) samples (length rs) rows 0 k c l n ∙ row-held rs twelve (zeros room) fits k c h l
  other k c h l n false = filled-other e q rows (length rs) samples (length rs) rows 0 k c l n ∙ row-held rs twelve (zeros room) fits k c h l

  number : (k c : ℕ) → k < length rs → c < 12 → number_at table k c ≡ cond (is_block rows k && eqb c 9) (pos (block_length e q rows (length rs) samples k)) (own k c)
  number k c h l = ⊎_elim (λ (z : c ≡ 9). rw (eq-eqb c 9 z, z) (tenth k h (is_block rows k) refl)) (λ z. rw (ne_eqb c 9 z) (other k c h l z (is_block rows k))) (eq-or-ne c 9)

  pub rows-held-all : RowsHeld e q rs samples rows room table
  rows-held-all =
      record {
        long = filled-long e q rows (length rs) samples rows 0 (length rs) ∙ laid-rows-long (zeros room) 0 rs ∙ length-replicate room (pos 0);
        numbers = number;
        rest = λ i (h : length rs * 12 ≤ i).
            filled-past e q rows (length rs) samples rows 0 (length rs) i (rw (zero-plus (length rs)) h)
            ∙ laid-past twelve (zeros room) 0 i (rw (zero-plus (length rs)) h)
            ∙ zeros-at room i;
      }
