-- The fields of a line read by a list of columns into a row's numbers. "A decimal as two numbers, dwell as ns, an absent time
-- as 0."
use Rattle.numeral.specs.declared.Decimal.{Decimal}
use Rattle.std.specs.Prelude.{ℕ, cond, List, [], ◌∷◌, ℤ, pos, Option, None, Some}
use Rattle.numeral.specs.Integer.{integer_of}
use Rattle.decimals.specs.Decimal.{decimal_of}
use Rattle.numeral.specs.Worth.{whole_of}
use Rattle.columns.specs.Columns.{is_absent, least_of, most_of, form_number}
use Rattle.columns.specs.Rows.{padded}
use Rattle.columns.specs.declared.Kind.{Kind}
use Rattle.columns.specs.declared.Kind.TheVariants.{Id, Reference, Required, Micros, Duration, Count, Natural as NaturalKind, Decimal as DecimalKind, Dwell, Absent}
use Rattle.rows.specs.declared.Cell.{Cell}
use Rattle.rows.specs.declared.Cell.TheVariants.{One, Two}
use Rattle.columns.specs.declared.Form.{Form}

-- ---- One field: an integer in the column's range; "dwell a decimal worth a whole 1 to 10^9 ns"; a decimal
unfoldable pub natural_cell : Option ℕ → Option Cell
natural_cell (Some n) = Some (One (pos n))
natural_cell None = None

unfoldable pub decimal_cell : Option Decimal → Option Cell
decimal_cell (Some d) = Some (Two d.mantissa d.exponent)
decimal_cell None = None

unfoldable pub dwell_cell : Option Decimal → Option Cell
dwell_cell (Some d) = natural_cell (whole_of d 0 1 1000000000)
dwell_cell None = None

unfoldable pub integer_cell : Kind → List ℕ → Option Cell
integer_cell kind field = natural_cell (integer_of (least_of kind) (most_of kind) field)

unfoldable pub cell_of : Kind → List ℕ → Option Cell
cell_of Id field = integer_cell Id field
cell_of Reference field = integer_cell Reference field
cell_of Required field = integer_cell Required field
cell_of Micros field = integer_cell Micros field
cell_of Duration field = integer_cell Duration field
cell_of Count field = integer_cell Count field
cell_of NaturalKind field = integer_cell NaturalKind field
cell_of DecimalKind field = decimal_cell (decimal_of field)
cell_of Dwell field = dwell_cell (decimal_of field)
cell_of Absent field = None

-- ---- All fields, as many as the columns ask for
unfoldable pub with : Option Cell → Option (List ℤ) → Option (List ℤ)
with (Some (One v)) (Some vs) = Some (v ∷ vs)
with (Some (One v)) None = None
with (Some (Two a b)) (Some vs) = Some (a ∷ b ∷ vs)
with (Some (Two a b)) None = None
with None o = None

unfoldable pub row_from : List Kind → List (List ℕ) → Option (List ℤ)
row_from [] [] = Some []
row_from [] (f ∷ fs) = None
row_from (k ∷ ks) [] = cond (is_absent k) (with (Some (One (pos 0))) (row_from ks [])) None
row_from (k ∷ ks) (f ∷ fs) = cond (is_absent k) (with (Some (One (pos 0))) (row_from ks (f ∷ fs))) (with (cell_of k f) (row_from ks fs))

-- ---- A line read as a row: all twelve numbers, if it is one
unfoldable pub row_is : Form → Option (List ℤ) → Option (List ℤ)
row_is form None = None
row_is form (Some vs) = Some (padded (form_number form) vs)
