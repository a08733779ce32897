-- The table that an accepted file leaves: its rows as they were laid, and each block's ns besides. Assumes nothing.
use Prim.Native.Nat.{ℕ, ◌+◌, ◌*◌, ◌/◌, ◌≤◌, ◌<◌}
use mathlib.Core.Bool.{Bool, true, false, cond, ◌&&◌, true≢false}
use mathlib.Core.List.{List}
use mathlib.Core.Logic.{⊎_elim}
use mathlib.Core.Path.{◌≡◌, refl, sym, ◌∙◌}
use native.Mathlib.Omega.{arith}
use borrow.Author.Tests.{eqb-true}
use lib.Dec.{eqb, ltb}
use lib.IntN.{ℤ, pos}
use lib.ListN.{length, get_or, length-replicate}
use Rattle.text.proofs.Cases.{lt-or-ge}
use Rattle.signed.specs.Signed.{same_z}
use Rattle.unit.specs.declared.Rasters.{Rasters}
use Rattle.shape.specs.declared.Edition.{Edition}
use Rattle.columns.specs.Columns.{form_number, shape_kind}
use Rattle.columns.specs.Rows.{row_width}
use Rattle.columns.specs.declared.Form.TheVariants.{Block}
use Rattle.tables.specs.Tables.{number_at, NoneAgain, samples_at}
use Rattle.tables.proofs.Numbers.{number-beyond}
use Rattle.file.specs.Rows.{rows_of}
use Rattle.file_tables.specs.Tables.{cells_of}
use Rattle.file_tables.proofs.Laid.{row-held}
use Rattle.file_tables.proofs.Whole.{rows-twelve}
use Rattle.rasters.specs.Rasters.{rasters_of}
use Rattle.blocks.specs.Blocks.{block_length, is_block}
use Rattle.reader.specs.Reading.{zeros, rows_laid, rows_out, samples_out}
use Rattle.demands.specs.Keeping.{SoundSite, Keeps, RowsHeld}
use Rattle.demands.proofs.Questions.{of-once, none-twice}
use Rattle.demands.proofs.Exactly.{rows-hold, samples-hold}
use Rattle.arranged.specs.Alike.{is_anew, Alike, Arranged}
use Rattle.arranged.proofs.Turning.{same-arranged}

-- ---- A number that a row says as it was is no block's ns
not-nanos : (rows : List ℤ) (k c : ℕ) → is_anew (number_at rows k 0) c ≡ false → (is_block rows k && eqb c 9) ≡ false
not-nanos rows k c = go (is_block rows k) (eqb c 9) refl refl
  where
    go : (b t : Bool) → is_block rows k ≡ b → eqb c 9 ≡ t → is_anew (number_at rows k 0) c ≡ false → b && t ≡ false
    go true true p r a = absurd (true≢false (sym (nanos-anew p) ∙ (rw (eqb-true c 9 r) at a)))
      where
        nanos-anew : is_block rows k ≡ true → is_anew (number_at rows k 0) 9 ≡ true
        nanos-anew p = unfold is_anew in rw p
    go true false p r a = refl
    go false t p r a = refl

-- ---- The rows of a file, as they are laid
module _ (file : List ℕ) (room : ℕ) (fits : length (rows_of file) ≤ room / row_width) where
  abbrev laid : List ℤ
  laid = rows_laid file (zeros room)

  abbrev n : ℕ
  n = length (rows_of file)

  pub room_fits : n ≤ length (zeros room) / 12
  room_fits = rw (length-replicate room (pos 0)) fits

  pub laid-number : (k c : ℕ) → k < n → c < 12 → number_at laid k c ≡ get_or (cells_of (rows_of file) k) c (pos 0)
  laid-number k c h l = row-held (rows_of file) (rows-twelve file) (zeros room) room_fits k c h l

  -- ---- of an accepted file
  module _ (site : List ℕ) (size : ℕ) (sound : SoundSite site) (keeps : Keeps file site room size) where
    abbrev full : List ℤ
    full = rows_out file site room size

    abbrev e : Edition
    e = keeps.end.edition

    abbrev q : Rasters
    q = rasters_of e file site

    abbrev held : RowsHeld e q (rows_of file) keeps.samples laid room full
    held = rows-hold file site room size sound keeps

    pub laid-once : NoneAgain laid n
    laid-once = none-twice file (zeros room) room_fits (of-once file keeps.once)

    -- a number other than a block's ns
    full-number : (k c : ℕ) → k < n → c < 12 → (is_block laid k && eqb c 9) ≡ false → number_at full k c ≡ number_at laid k c
    full-number k c h l b = (rw b at (held.numbers k c h l)) ∙ sym (laid-number k c h l)

    pub full-alike : (k : ℕ) → k < n → Alike laid k full k
    full-alike k h =
        record {
          same = λ c a.
              ⊎_elim (λ (l : c < 12). sym (full-number k c h l (not-nanos laid k c a))) (λ (l : 12 ≤ c). sym (number-beyond laid k c l) ∙ number-beyond full k c l) (lt-or-ge c 12);
        }

    pub full-same : Arranged laid n full n
    full-same = same-arranged full-alike laid-once

    pub full-length : (k : ℕ) → k < n → number_at laid k 0 ≡ pos (form_number Block) → number_at full k 9 ≡ pos (block_length e q laid n keeps.samples k)
    unfolding same_z
    full-length k h i = held.numbers k 9 h (omega arith) ∙ rw i

    -- a shape's samples
    pub full-samples : (k : ℕ) → k < n → number_at laid k 0 ≡ pos shape_kind → samples_at laid k keeps.samples ≡ samples_at full k (samples_out file site room size)
    unfolding samples_at
    full-samples k h i = rw (samples-hold file site room size sound keeps, number 2 (omega arith), number 3 (omega arith))
      where
        number : (c : ℕ) → c < 12 → number_at full k c ≡ number_at laid k c
        number c l = full-number k c h l (unfold same_z in rw i)

    pub full-past : number_at full n 0 ≡ pos 0
    unfolding number_at
    full-past = go (ltb n (length full / row_width) && ltb 0 row_width)
      where
        go : (b : Bool) → cond b (get_or full (n * row_width + 0) (pos 0)) (pos 0) ≡ pos 0
        go true = held.rest (n * row_width + 0) (omega arith)
        go false = refl
