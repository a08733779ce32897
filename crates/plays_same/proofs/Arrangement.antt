-- The rows of a restated text, as reading lays them, are the source's in another order. Assumes nothing.
use Prim.Native.Nat.{ℕ, suc, ◌/◌, ◌≤◌, ◌<◌}
use mathlib.Core.Bool.{true}
use mathlib.Core.List.{List}
use mathlib.Core.Path.{◌≡◌, sym, ap, subst}
use lib.IntN.{ℤ, pos}
use lib.ListN.{length, get_or}
use Rattle.shape.specs.declared.Edition.{Edition}
use Rattle.columns.specs.Rows.{row_width}
use Rattle.places.specs.declared.State.{State}
use Rattle.tables.specs.Tables.{number_at, NoneAgain}
use Rattle.blocks.specs.Blocks.{is_block}
use Rattle.file.specs.Rows.{Placed, rows_of}
use Rattle.file_tables.specs.Tables.{cells_of}
use Rattle.needs.specs.Needs.{site_rasters}
use Rattle.reader.specs.Reading.{zeros, rows_laid, rows_out, samples_out}
use Rattle.repeats.specs.Once.{RowTwice, Twice, by_row, by_word}
use Rattle.sources.specs.Sources.{own_rasters}
use Rattle.sayable.specs.Sayable.{nanos_at}
use Rattle.shape.specs.declared.Edition.TheVariants.{V13}
use Rattle.demands.specs.Keeping.{HasBlock}
use Rattle.demands.specs.Refusing.{text_in}
use Rattle.demands.proofs.Questions.{of-once, none-twice}
use Rattle.arranged.specs.Alike.{Stands, Arranged, InOrder}
use Rattle.restated_source.proofs.Source.{source-rows, source-holds}
use Rattle.restated_source.proofs.Saying.{no-times}
use Rattle.restated_rows.proofs.Source.{Source}
use Rattle.restated_rows.proofs.Whole.{Restating, out}
use Rattle.restated_rows.proofs.Text.{in_shapes, restated-out, restating}
use Rattle.restated_rows.proofs.Arranged.{BlockFrom, DelayStands, has_block, stands-forth, stands-back, block-numbers, delay-stands}
use Rattle.restated_rows.proofs.Once.{no-row-twice}
use Rattle.restated_rows.proofs.Order.{in_order}
use Rattle.plays_same.proofs.Tables.{room_fits, laid-number, full-same}
use Rattle.plays_same.proofs.Back.{Sayable, back-readable, back-listed, back-words}

module _ {target : Edition} {file site : List ℕ} {room size : ℕ} (v : Sayable target file site room size) where
  abbrev rows : List ℤ
  rows = rows_out file site room size

  abbrev samples : List ℤ
  samples = samples_out file site room size

  abbrev count : ℕ
  count = length (rows_of file)

  abbrev raster : ℕ
  raster = (own_rasters file site).block.0

  abbrev text : List ℕ
  text = text_in target file site room size count

  -- ---- The source
  pub rows-once : NoneAgain rows count
  rows-once = (full-same file room v.keeps.rows_fit site size v.sound v.keeps).again

  source : Source v.keeps.end.edition target rows count (cells_of (rows_of file))
  source =
      record {
        in-range = source-rows file site room size v.keeps;
        numbers = λ k c h l t. source-holds file site room size v.keeps v.sound k h c l t;
        times = no-times target (own_rasters file site) (site_rasters site) rows count v.sayable;
        once = rows-once;
        few = (back-readable v).few;
        small = (back-readable v).small;
      }

  arranging : Restating target raster rows count (back-listed v).rs
  arranging = restating target raster file site rows count samples (back-readable v) (back-listed v).listed source

  -- ---- Its rows, section by section
  abbrev begin : State
  begin = in_shapes target raster file site rows count samples (back-readable v) (back-listed v).listed

  abbrev listed_out : List Placed
  listed_out = out target raster file site rows count samples (back-listed v).rs begin (suc (back-listed v).end)

  rows_out_lem : rows_of text ≡ listed_out
  rows_out_lem = restated-out target raster file site rows count samples (back-readable v) (back-listed v).listed

  pub text-once : (line : ℕ) → Twice text line → ⊥
  text-once line (by_row t) = no-row-twice arranging file site samples begin (suc (back-listed v).end) line (subst (λ (rs : List Placed). RowTwice rs line) rows_out_lem t)
  text-once line (by_word t) = back-words v line t

  pub text-block : (k : ℕ) → k < count → is_block rows k ≡ true → HasBlock (rows_of text)
  text-block k h b = subst HasBlock (sym rows_out_lem) (has_block arranging file site samples begin (suc (back-listed v).end) k h b)

  -- ---- As they are laid in a table with room for them
  module _ (room' : ℕ) (fits : length (rows_of text) ≤ room' / row_width) where
    abbrev laid : List ℤ
    laid = rows_laid text (zeros room')

    abbrev m : ℕ
    m = length (rows_of text)

    laid_out : (j c : ℕ) → j < length listed_out → c < 12 → number_at laid j c ≡ get_or (cells_of listed_out j) c (pos 0)
    laid_out = subst (λ (rs : List Placed). (j c : ℕ) → j < length rs → c < 12 → number_at laid j c ≡ get_or (cells_of rs j) c (pos 0)) rows_out_lem (laid-number text room' fits)

    many : length listed_out ≡ m
    many = ap length (sym rows_out_lem)

    pub text-again : NoneAgain laid m
    text-again = none-twice text (zeros room') (room_fits text room' fits) (of-once text text-once)

    pub text-arranged : Arranged rows count laid m
    text-arranged =
        record {
          forth = λ k h e. subst (Stands rows k laid) many (stands-forth arranging file site samples begin (suc (back-listed v).end) laid laid_out k h e);
          back = λ j h e. stands-back arranging file site samples begin (suc (back-listed v).end) laid laid_out j (rw many h) e;
          once = rows-once;
          again = text-again;
        }

    pub text-order : InOrder rows laid 0 count 0 m
    text-order = subst (InOrder rows laid 0 count 0) many (in_order arranging file site samples begin (suc (back-listed v).end) laid laid_out)

    pub text-duration : (j : ℕ) → j < m → is_block laid j ≡ true → BlockFrom target raster rows count laid j
    text-duration j h b = block-numbers arranging file site samples begin (suc (back-listed v).end) laid laid_out j (rw many h) b

    pub text-delay : target ≡ V13 → (k : ℕ) → k < count → is_block rows k ≡ true → (nanos_at rows k ≡ 0 → ⊥) → DelayStands rows count k laid m
    text-delay t k h b z = subst (DelayStands rows count k laid) many (delay-stands arranging file site samples begin (suc (back-listed v).end) laid laid_out t k h b z)
