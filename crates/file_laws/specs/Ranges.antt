-- Rows in range: what the numbers of a row may be, whatever its kind; and those of a file.
use Rattle.std.specs.Prelude.{ℕ, ◌≤◌, Bool, true, false, List, [], ◌∷◌, ℤ, pos, nat_abs}
use Rattle.signed.specs.Signed.{largest}
use Rattle.numeral.specs.Integer.{largest_id}
use Rattle.shape.specs.declared.Edition.{Edition}
use Rattle.columns.specs.Columns.{columns_of, form_number, extension_kind, label_kind, shape_kind, most_of}
use Rattle.columns.specs.Rows.{padded}
use Rattle.columns.specs.Ranges.{InRange}
use Rattle.columns.specs.declared.Form.{Form}
use Rattle.columns.specs.declared.Kind.TheVariants.{Count}
use Rattle.places.specs.declared.Place.{Place}
use Rattle.places.specs.declared.Place.TheVariants.{Start, Version, Section, Extensions, Head, Values, Signature}
use Rattle.file.specs.Rows.{Placed}

-- ---- All eleven kinds, twelve numbers each: those read by their columns; "8 extension", "10 label" and "11 shape"
pub data RowIn (edition : Edition) : List ℤ → Type 0 where
  by-columns : (form : Form) (vs : List ℤ) → InRange (columns_of edition form) vs → RowIn edition (padded (form_number form) vs)
  extension : (type code : ℕ) → 1 ≤ type → type ≤ largest_id → code ≤ 3 → RowIn edition (padded extension_kind (pos type ∷ pos code ∷ []))
  label : (id flag n : ℕ) (v : ℤ) → 1 ≤ id → id ≤ largest_id → flag ≤ 1 → nat_abs v ≤ largest_id → 1 ≤ n → n ≤ 13
      → RowIn edition (padded label_kind (pos id ∷ pos flag ∷ v ∷ pos n ∷ []))
  shape : (id num first : ℕ) → 1 ≤ id → id ≤ largest_id → 1 ≤ num → num ≤ most_of Count → first ≤ largest
      → RowIn edition (padded shape_kind (pos id ∷ pos num ∷ pos first ∷ []))

-- ---- Where the edition is known, and with it what rows may be
unfoldable pub is_past : Place → Bool
is_past Start = false
is_past (Version due) = false
is_past (Section lines) = true
is_past (Extensions listed) = true
is_past (Head id n) = true
is_past Values = true
is_past Signature = true

-- ---- Each row's numbers are what its edition lets them be
pub data AllIn (edition : Edition) : List Placed → Type 0 where
  no_rows : AllIn edition []
  one_more : {r : Placed} {rs : List Placed} → RowIn edition r.cells → AllIn edition rs → AllIn edition (r ∷ rs)
