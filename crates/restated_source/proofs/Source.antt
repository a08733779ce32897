-- What the tables of an accepted file hold, as what is to be restated: rows in range, short blocks, samples within the limits. Assumes nothing.
use Prim.Native.Nat.{ℕ, zero, suc, ◌^◌, ◌≤◌, ◌<◌}
use mathlib.Core.Bool.{true, false, cond, ◌&&◌, and-false}
use mathlib.Core.List.{List, [], ◌∷◌, ◌++◌}
use mathlib.Core.Path.{◌≡◌, sym, ◌∙◌}
use native.Mathlib.Omega.{arith}
use lib.Dec.{eqb}
use lib.IntN.{ℤ, pos}
use lib.ListN.{length, get_or, length-replicate}
use Rattle.text.specs.Lines.{lines_of}
use Rattle.signed.proofs.Sign.{same_z-true}
use Rattle.shape.specs.declared.Edition.{Edition}
use Rattle.places.specs.Places.{fresh}
use Rattle.places.specs.declared.Found.{Found}
use Rattle.places.specs.declared.Found.TheVariants.{Nothing, Row, Definition, Fault}
use Rattle.places.specs.declared.State.{State}
use Rattle.grammar.specs.Steps.{step_of}
use Rattle.tables.specs.Tables.{number_at}
use Rattle.blocks.specs.Blocks.{block_length, is_block}
use Rattle.file.specs.Whole.{ended, verdict_of, is_fault, is_row, gathered}
use Rattle.file.specs.Rows.{Placed, row_at, rows_from, rows_of}
use Rattle.file_laws.specs.Ranges.{RowIn, AllIn, no_rows, one_more}
use Rattle.file_laws.proofs.Ranges.{rows-in-range, lines-few}
use Rattle.file_tables.specs.Tables.{cells_of}
use Rattle.file_tables.proofs.Laid.{row-held}
use Rattle.file_tables.proofs.Whole.{rows-twelve}
use Rattle.exact_lengths.specs.Tables.{SamplesIn}
use Rattle.rasters.specs.Rasters.{rasters_of}
use Rattle.reader.specs.Reading.{zeros, rows_laid, rows_out, samples_out}
use Rattle.sayable.specs.Sayable.{nanos_at}
use Rattle.demands.specs.Keeping.{SoundSite, Keeps}
use Rattle.demands.proofs.Lines.{runs-verdict}
use Rattle.demands.proofs.Samples.{held_in}
use Rattle.demands.proofs.Exactly.{rows-hold, samples-hold}
use Rattle.restated_source.proofs.Held.{TableHolds}

-- ---- A line gives at most one row
rows-lines : (st : State) (n : ℕ) (ls : List (List ℕ)) → length (rows_from st n ls) ≤ length ls
unfolding gathered row_at is_fault is_row
rows-lines st n [] = omega arith
rows-lines st n (l ∷ ls) = go (step_of st n l).found (record { line = (step_of st n l).line; cells = (step_of st n l).cells }) _ (rows-lines (step_of st n l).next (suc n) ls)
  where
    go : (f : Found) (r : Placed) (rs : List Placed) → length rs ≤ length ls → length (cond (is_fault f) [] (cond (is_row f) (r ∷ []) [] ++ rs)) ≤ suc (length ls)
    go Nothing r rs h = omega arith
    go Row r rs h = omega arith
    go Definition r rs h = omega arith
    go (Fault f) r rs h = omega arith

pub rows_few : (file : List ℕ) → length (rows_of file) ≤ length file
unfolding rows_of
rows_few file = let a = rows-lines fresh 1 (lines_of file) in let b = lines-few file in omega arith

row_in : {e : Edition} {rs : List Placed} → AllIn e rs → (k : ℕ) → k < length rs → RowIn e (cells_of rs k)
unfolding cells_of
row_in no_rows k h = absurd (omega arith)
row_in (one_more r rs) zero h = r
row_in (one_more r rs) (suc k) h = row_in rs k (omega arith)

module _ (file site : List ℕ) (room size : ℕ) (keeps : Keeps file site room size) where
  pub source-verdict : verdict_of file ≡ ended keeps.end
  source-verdict = runs-verdict file keeps.lines

  pub source-rows : (k : ℕ) → k < length (rows_of file) → RowIn keeps.end.edition (cells_of (rows_of file) k)
  source-rows k h = row_in (rows-in-range file keeps.end source-verdict) k h

  -- ---- The table of rows
  module _ (sound : SoundSite site) where
    abbrev laid : List ℤ
    laid = rows_laid file (zeros room)

    abbrev out : List ℤ
    out = rows_out file site room size

    laid-number : (k c : ℕ) → k < length (rows_of file) → c < 12 → number_at laid k c ≡ get_or (cells_of (rows_of file) k) c (pos 0)
    laid-number k c h l = row-held (rows_of file) (rows-twelve file) (zeros room) (rw (length-replicate room (pos 0)) keeps.rows_fit) k c h l

    out-number : (k c : ℕ) → k < length (rows_of file) → c < 12
        → number_at out k c
        ≡ cond (is_block laid k && eqb c 9) (pos (block_length keeps.end.edition (rasters_of keeps.end.edition file site) laid (length (rows_of file)) keeps.samples k))
        (get_or (cells_of (rows_of file) k) c (pos 0))
    out-number = (rows-hold file site room size sound keeps).numbers

    out-kind : (k : ℕ) → k < length (rows_of file) → number_at out k 0 ≡ number_at laid k 0
    out-kind k h = out-number k 0 h (omega arith) ∙ (rw (and-false (is_block laid k)) (sym (laid-number k 0 h (omega arith))))

    pub source-holds : TableHolds out (rows_of file)
    source-holds k h c l other =
        let test : (is_block laid k && eqb c 9) ≡ false = rw (out-kind k h) at other in
        out-number k c h l ∙ rw test

    pub source-long : (k : ℕ) → k < length (rows_of file) → is_block out k ≡ true → nanos_at out k ≤ 10 ^ 12
    unfolding nanos_at
    source-long k h b =
        let test : is_block laid k ≡ true = rw (out-kind k h) at b in
        rw (out-number k 9 h (omega arith), test) (keeps.rules.short k h (same_z-true (number_at laid k 0) (pos 1) test))

    -- ---- The samples
    pub source-samples : SamplesIn (samples_out file site room size)
    source-samples = rw (samples-hold file site room size sound keeps) (held_in keeps.end.edition file laid (length (rows_of file)) size keeps.samples keeps.held keeps.shapes)
