-- A printed row reads back as that row. Assumes nothing.
use Rattle.std.proofs.Common.{Some}
use Prim.Native.Nat.{ℕ, ◌^◌, ◌≤◌, ◌<◌}
use mathlib.Core.Bool.{Bool, true, false, cond}
use mathlib.Core.List.{List, [], ◌∷◌}
use mathlib.Core.Path.{◌≡◌, refl, ap, sym, ◌∙◌}
use native.Mathlib.Omega.{arith}
use lib.IntN.{ℤ, pos}
use lib.ListN.{get_or, drop}
use Rattle.fields.specs.Fields.{fields_of}
use Rattle.fields.proofs.Fields.{Word, AllWords, none_left, one_more, fields-joined}
use Rattle.decimals.specs.Decimal.{decimal_of}
use Rattle.numeral.specs.Kept.{Kept}
use Rattle.print.specs.Printed.{digits_of}
use Rattle.print.proofs.Back.{integer-back, decimal-back}
use Rattle.print.proofs.Figures.{signed_word, decimal-word}
use Rattle.shape.specs.declared.Edition.{Edition}
use Rattle.columns.specs.Columns.{columns_of, least_of, most_of, is_absent, width_of}
use Rattle.rows.specs.Cells.{natural_cell, decimal_cell, dwell_cell, integer_cell, cell_of, with, row_from}
use Rattle.row_text.specs.Printed.{field_text, texts_of, row_text}
use Rattle.columns.specs.declared.Kind.{Kind}
use Rattle.columns.specs.declared.Kind.TheVariants.{Id, Reference, Required, Micros, Duration, Count, Natural, Decimal, Dwell, Absent}
use Rattle.rows.specs.declared.Cell.TheVariants.{One, Two}
use Rattle.columns.specs.declared.Form.{Form}
use Rattle.print.proofs.Naturals.{natural-text, natural-back, natural-worth}
use Rattle.columns.specs.Ranges.{is_whole, InRange, no_more, no_field, one_number, two-numbers}
use Rattle.columns.proofs.Widths.{whole-width}
use Rattle.rows.proofs.Rows.{row-absent, row_field}
use Rattle.row_text.proofs.Writing.{whole-text, decimal-text}

-- ---- One column
-- a whole number
module _ (n : ℕ) where
  integer-cell : (k : Kind) → most_of k < 10 ^ 10 → least_of k ≤ n → n ≤ most_of k → integer_cell k (digits_of n) ≡ Some (One (pos n))
  unfolding integer_cell natural_cell
  integer-cell k s l m = rw (integer-back (least_of k) (most_of k) n (omega arith) l m)

  dwell-cell : 1 ≤ n → n ≤ 1000000000 → dwell_cell (decimal_of (digits_of n)) ≡ Some (One (pos n))
  unfolding dwell_cell natural_cell
  dwell-cell l m = rw (natural-back n (omega arith), natural-worth n 1 1000000000 l m)

  whole-cell : (k : Kind) → is_whole k ≡ true → least_of k ≤ n → n ≤ most_of k → cell_of k (digits_of n) ≡ Some (One (pos n))
  unfolding cell_of
  whole-cell Id e l m = integer-cell Id (omega arith) l m
  whole-cell Reference e l m = integer-cell Reference (omega arith) l m
  whole-cell Required e l m = integer-cell Required (omega arith) l m
  whole-cell Micros e l m = integer-cell Micros (omega arith) l m
  whole-cell Duration e l m = integer-cell Duration (omega arith) l m
  whole-cell Count e l m = integer-cell Count (omega arith) l m
  whole-cell Natural e l m = integer-cell Natural (omega arith) l m
  whole-cell Decimal e l m = absurd (let z : ◌≡◌ {A = ℕ} 0 1 = cc in omega arith)
  whole-cell Dwell e l m = dwell-cell l m
  whole-cell Absent e l m = absurd (let z : ◌≡◌ {A = ℕ} 0 1 = cc in omega arith)

  pub cell-back : (k : Kind) (vs : List ℤ) → is_whole k ≡ true → least_of k ≤ n → n ≤ most_of k → cell_of k (field_text k (pos n ∷ vs)) ≡ Some (One (pos n))
  cell-back k vs e l m = ap (cell_of k) (whole-text k (pos n ∷ vs) e ∙ natural-text n) ∙ whole-cell k e l m

-- a decimal
pub pair-back : (m e : ℤ) (vs : List ℤ) → Kept (record { mantissa = m; exponent = e }) → cell_of Decimal (field_text Decimal (m ∷ e ∷ vs)) ≡ Some (Two m e)
unfolding cell_of decimal_cell
pair-back m e vs k = rw (decimal-text (m ∷ e ∷ vs), decimal-back (record { mantissa = m; exponent = e }) k)

-- ---- The words of a row
whole-absent : (k : Kind) → is_whole k ≡ true → is_absent k ≡ false
whole-absent Id e = refl
whole-absent Reference e = refl
whole-absent Required e = refl
whole-absent Micros e = refl
whole-absent Duration e = refl
whole-absent Count e = refl
whole-absent Natural e = refl
whole-absent Decimal e = refl
whole-absent Dwell e = refl
whole-absent Absent e = sym e

pub texts-whole : (k : Kind) (ks : List Kind) (v : ℤ) (vs : List ℤ) → is_whole k ≡ true → texts_of (k ∷ ks) (v ∷ vs) ≡ field_text k (v ∷ vs) ∷ texts_of ks vs
unfolding texts_of
texts-whole k ks v vs e = rw (whole-absent k e, whole-width k e)

pub texts-pair : (ks : List Kind) (m e : ℤ) (vs : List ℤ) → texts_of (Decimal ∷ ks) (m ∷ e ∷ vs) ≡ field_text Decimal (m ∷ e ∷ vs) ∷ texts_of ks vs
unfolding texts_of
texts-pair ks m e vs = refl

pub texts-absent : (ks : List Kind) (v : ℤ) (vs : List ℤ) → texts_of (Absent ∷ ks) (v ∷ vs) ≡ texts_of ks vs
unfolding texts_of
texts-absent ks v vs = refl

field-word : (k : Kind) (vs : List ℤ) → is_absent k ≡ false → Word (field_text k vs)
unfolding field_text
field-word Id vs e = signed_word (get_or vs 0 (pos 0))
field-word Reference vs e = signed_word (get_or vs 0 (pos 0))
field-word Required vs e = signed_word (get_or vs 0 (pos 0))
field-word Micros vs e = signed_word (get_or vs 0 (pos 0))
field-word Duration vs e = signed_word (get_or vs 0 (pos 0))
field-word Count vs e = signed_word (get_or vs 0 (pos 0))
field-word Natural vs e = signed_word (get_or vs 0 (pos 0))
field-word Decimal vs e = decimal-word (record { mantissa = get_or vs 0 (pos 0); exponent = get_or vs 1 (pos 0) })
field-word Dwell vs e = signed_word (get_or vs 0 (pos 0))
field-word Absent vs e = absurd (let z : ◌≡◌ {A = ℕ} 0 1 = cc in omega arith)

pub texts-words : (ks : List Kind) (vs : List ℤ) → AllWords (texts_of ks vs)
unfolding texts_of
texts-words [] vs = none_left
texts-words (k ∷ ks) vs = go (is_absent k) refl (texts-words ks (drop (width_of k) vs))
  where
    go : (b : Bool) → is_absent k ≡ b → AllWords (texts_of ks (drop (width_of k) vs))
        → AllWords (cond b (texts_of ks (drop (width_of k) vs)) (field_text k vs ∷ texts_of ks (drop (width_of k) vs)))
    go true e p = p
    go false e p = one_more (field-word k vs e) p

-- ---- The law
one-some : (v : ℤ) (vs : List ℤ) → with (Some (One v)) (Some vs) ≡ Some (v ∷ vs)
unfolding with
one-some v vs = refl

two-some : (a b : ℤ) (vs : List ℤ) → with (Some (Two a b)) (Some vs) ≡ Some (a ∷ b ∷ vs)
unfolding with
two-some a b vs = refl

last-back : row_from [] (texts_of [] []) ≡ Some []
unfolding row_from texts_of
last-back = refl

pub row_back : {ks : List Kind} {vs : List ℤ} → InRange ks vs → row_from ks (texts_of ks vs) ≡ Some vs
row_back no_more = last-back
row_back (no_field {ks} {vs} r) =
    ap (row_from (Absent ∷ ks)) (texts-absent ks (pos 0) vs)
    ∙ row-absent Absent ks (texts_of ks vs) refl
    ∙ ap (with (Some (One (pos 0)))) (row_back r)
    ∙ one-some (pos 0) vs
row_back (one_number {k} {ks} {n} {vs} e l m r) =
    ap (row_from (k ∷ ks)) (texts-whole k ks (pos n) vs e)
    ∙ row_field k ks (field_text k (pos n ∷ vs)) (texts_of ks vs) (whole-absent k e)
    ∙ rw (cell-back n k vs e l m, row_back r) (one-some (pos n) vs)
row_back (two-numbers {ks} {m} {e} {vs} k r) =
    ap (row_from (Decimal ∷ ks)) (texts-pair ks m e vs)
    ∙ row_field Decimal ks (field_text Decimal (m ∷ e ∷ vs)) (texts_of ks vs) refl
    ∙ rw (pair-back m e vs k, row_back r) (two-some m e vs)

pub fields-row : (ks : List Kind) (vs : List ℤ) → fields_of (row_text ks vs) ≡ texts_of ks vs
unfolding row_text
fields-row ks vs = fields-joined (texts-words ks vs)

pub printed-row-back : (edition : Edition) (form : Form) (vs : List ℤ) → InRange (columns_of edition form) vs
    → row_from (columns_of edition form) (fields_of (row_text (columns_of edition form) vs)) ≡ Some vs
printed-row-back edition form vs r = ap (row_from (columns_of edition form)) (fields-row (columns_of edition form) vs) ∙ row_back r
