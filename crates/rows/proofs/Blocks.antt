-- The columns of a block, and its line read where it stands in a text. Assumes nothing.
use Rattle.std.proofs.Common.{Some}
use Prim.Native.Nat.{ℕ, zero, suc, ◌+◌, ◌-◌, ◌≤◌, ◌<◌, min}
use mathlib.Core.Bool.{true, false}
use mathlib.Core.List.{List, []}
use mathlib.Core.Path.{◌≡◌, refl, sym, ap, ◌∙◌}
use native.Mathlib.Omega.{arith}
use borrow.Author.Tests.{le-leb}
use lib.Dec.{leb}
use lib.IntN.{ℤ, pos}
use lib.ListN.{length, get_or, drop, set, drop_of_length-le}
use Rattle.signed.specs.Signed.{signed_of, largest}
use Rattle.text.specs.Lines.{bare_of, line_at}
use Rattle.text.specs.Marks.{breaks_line, cut_at}
use Rattle.text.specs.Blanks.{skipped}
use Rattle.text.specs.declared.Piece.{Piece}
use Rattle.text.proofs.Blanks.{skip-later}
use Rattle.text.proofs.Marks.{breaks-clean}
use Rattle.fields.specs.Fields.{fields_of}
use Rattle.numeral.specs.Integer.{largest_id}
use Rattle.shape.specs.declared.Edition.{Edition}
use Rattle.shape.specs.declared.Edition.TheVariants.{V13, V14}
use Rattle.columns.specs.Columns.{columns_of}
use Rattle.columns.specs.declared.Kind.{Kind}
use Rattle.columns.specs.declared.Kind.TheVariants.{Reference, Absent}
use Rattle.columns.specs.declared.Form.TheVariants.{Block}
use Rattle.rows.specs.Cells.{row_from, row_is}
use Rattle.rows.specs.Placed.{allowed_row, placed_row, line_row_of}
use Rattle.rows.specs.Inside.{by_digits, fits_column, Along, NumberIs}
use Rattle.rows.specs.declared.RowLine.{RowLine}
use Rattle.rows.proofs.Rows.{Reading, start, begun, turn_one, good-end, row-absent}
use Rattle.rows.proofs.Along.{along-none, along_then, along-blanks, fields-blanks, left, feed-cut, feed-long}
use Rattle.rows.proofs.Numbers.{cell-move}

-- ---- What kind of number stands in a column
abbrev pub kind_in : Edition → ℕ → Kind
kind_in edition j = get_or (columns_of edition Block) j Absent

reference-in : (edition : Edition) (k : ℕ) → k < 6 → kind_in edition (suc (suc k)) ≡ Reference
unfolding columns_of
reference-in edition zero h = refl
reference-in edition (suc zero) h = refl
reference-in edition (suc (suc zero)) h = refl
reference-in edition (suc (suc (suc zero))) h = refl
reference-in edition (suc (suc (suc (suc zero)))) h = refl
reference-in edition (suc (suc (suc (suc (suc zero))))) h = refl
reference-in edition (suc (suc (suc (suc (suc (suc k)))))) h = absurd (omega arith)

pub block-digits : (edition : Edition) (j : ℕ) → j < 8 → by_digits (kind_in edition j) ≡ true
unfolding columns_of
block-digits edition zero h = refl
block-digits V13 (suc zero) h = refl
block-digits V14 (suc zero) h = refl
block-digits edition (suc (suc k)) h = ap by_digits (reference-in edition k (omega arith))

-- ---- Whether a number fits a column
module _ (edition : Edition) (j v : ℕ) where
  pub fits-nothing : j ≡ 0 → v ≡ 0 → false ≡ fits_column (kind_in edition j) v
  unfolding columns_of
  fits-nothing e f = rw (e, f)

  pub fits-id : j ≡ 0 → (v ≡ 0 → ⊥) → leb v largest_id ≡ fits_column (kind_in edition j) v
  unfolding columns_of
  fits-id e n = rw (e, le-leb 1 v (omega arith))

  pub fits-delay : j ≡ 1 → edition ≡ V13 → leb v largest_id ≡ fits_column (kind_in edition j) v
  unfolding columns_of
  fits-delay e f = rw (e, f, le-leb 0 v (omega arith))

  pub fits-duration : j ≡ 1 → edition ≡ V14 → leb v 1000000000 ≡ fits_column (kind_in edition j) v
  unfolding columns_of
  fits-duration e f = rw (e, f, le-leb 0 v (omega arith))

  pub fits-reference : (j ≡ 0 → ⊥) → (j ≡ 1 → ⊥) → j < 8 → leb v largest_id ≡ fits_column (kind_in edition j) v
  fits-reference n m h =
      let e : j ≡ suc (suc (j - 2)) = omega arith in
      let k : kind_in edition j ≡ Reference = ap (kind_in edition) e ∙ reference-in edition (j - 2) (omega arith) in
      rw (k, le-leb 0 v (omega arith))

-- ---- The loop over the columns: what is read is of the line, and read as from the line by itself
pub record Blocking (edition : Edition) (text : List ℕ) (at : ℕ) (cells : List ℤ) (i j : ℕ) : Type 0 where
  pub along : Along text at i
  pub few : j ≤ 8
  pub reading : Reading Block (bare_of (drop at text)) (columns_of edition Block) cells (i - at) (j + 1) j

block-long : (edition : Edition) → length (columns_of edition Block) ≡ 9
unfolding columns_of
block-long edition = refl

block-absent : (edition : Edition) → kind_in edition 8 ≡ Absent
unfolding columns_of
block-absent edition = refl

pub block_start : (edition : Edition) (text : List ℕ) (at : ℕ) → Blocking edition text at (begun Block) at 0
block_start edition text at =
    let e : at - at ≡ 0 = omega arith in
    record { along = along-none text at; few = omega arith; reading = rw e (start edition Block (bare_of (drop at text)) (begun Block) refl) }

module _ {edition : Edition} {text : List ℕ} {at : ℕ} {cells : List ℤ} {i j : ℕ} (b : Blocking edition text at cells i j) where
  pub block-turn : j < 8 → (v stop : ℕ) → NumberIs text i (kind_in edition j) v stop → (z : ℤ) → z ≡ signed_of false (min v largest) → Blocking edition text at (set cells (j + 1) z) stop (j + 1)
  block-turn h v stop n z e =
      let a = along_then b.along n.along in
      let m : j < length (columns_of edition Block) = omega (arith, block-long edition) in
      record {
        along = a;
        few = omega arith;
        reading = rw e
            (turn_one Block (bare_of (drop at text)) (columns_of edition Block) cells (i - at) (j + 1) j b.reading m (signed_of false (min v largest)) (stop - at)
            (cell-move (ap fields_of (left b.along)) (ap fields_of (left n.along ∙ sym (left a))) n.cell));
      }

  pub block-later : (stop : ℕ) → stop ≡ skipped text i → at ≤ stop
  block-later stop p =
      let a = b.along.later in
      let s = skip-later text i in
      omega arith

  -- behind the last column, an LF
  module _ (l : 8 ≤ j) (stop : ℕ) (p : stop ≡ skipped text i) (h : stop < length text) (f : get_or text stop 0 ≡ 10) where
    ends : Along text at stop
    ends = along_then b.along (rw p (along-blanks text i))

    -- no field stands for the last column
    last : Reading Block (bare_of (drop at text)) (columns_of edition Block) (set cells (j + 1) (pos 0)) (i - at) (j + 1 + 1) (j + 1)
    last =
        let n = b.few in
        let e : j ≡ 8 = omega arith in
        let k : kind_in edition j ≡ Absent = ap (kind_in edition) e ∙ block-absent edition in
        turn_one Block (bare_of (drop at text)) (columns_of edition Block) cells (i - at) (j + 1) j b.reading (omega (arith, block-long edition)) (pos 0) (i - at)
        (rw k (record { wide = refl; rest = λ ks. row-absent Absent ks _ refl }))

    none_left : fields_of (drop (i - at) (bare_of (drop at text))) ≡ []
    unfolding fields_of
    none_left =
        let n : length (bare_of (drop at text)) ≤ stop - at = omega (arith, feed-long ends h f) in
        ap fields_of (left b.along) ∙ fields-blanks text i ∙ rw (← p) (ap fields_of (sym (left ends) ∙ drop_of_length-le (bare_of (drop at text)) n))

    whole : row_is Block (row_from (columns_of edition Block) (fields_of (bare_of (drop at text)))) ≡ Some (set cells 9 (pos 0))
    whole =
        let n = b.few in
        let e : 9 ≡ j + 1 = omega arith in
        rw e (good-end Block (bare_of (drop at text)) (columns_of edition Block) (set cells (j + 1) (pos 0)) (i - at) (j + 1 + 1) (j + 1) last (omega (arith, block-long edition)) none_left)

    allowed : stop - at ≤ 1024 → breaks_line (bare_of (drop at text)) ≡ false
    unfolding cut_at
    allowed k = breaks-clean (bare_of (drop at text)) (omega (arith, feed-long ends h f)) true (ap (λ (r : Piece). r.clean) (feed-cut ends h f)) refl

    next-line : stop + 1 ≡ (line_at text at).next
    unfolding cut_at
    next-line = ap (λ (r : Piece). r.next) (feed-cut ends h f)

    pub block-end : stop - at ≤ 1024 → ◌≡◌ {A = RowLine} (record { row = Some (set cells 9 (pos 0)); next = stop + 1 }) (line_row_of edition Block text at)
    unfolding line_row_of placed_row allowed_row
    block-end k = rw (allowed k, whole, next-line)
