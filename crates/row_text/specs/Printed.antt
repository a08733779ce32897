-- A row written out by its columns. "Rows in file order, single spaces"; "other decimals .. are mantissa, then `e` and exponent if not 0;
-- counts and dwell plain."
use Rattle.std.specs.Prelude.{ℕ, cond, List, [], ◌∷◌, ℤ, pos, drop, get_or}
use Rattle.fields.specs.Fields.{joined}
use Rattle.print.specs.Printed.{signed_text, decimal_text}
use Rattle.columns.specs.Columns.{is_absent, width_of}
use Rattle.columns.specs.declared.Kind.{Kind}
use Rattle.columns.specs.declared.Kind.TheVariants.{Id, Reference, Required, Micros, Duration, Count, Natural, Decimal, Dwell, Absent}

-- the numbers of one column, as they stand in front of a row's rest
unfoldable pub field_text : Kind → List ℤ → List ℕ
field_text Id vs = signed_text (get_or vs 0 (pos 0))
field_text Reference vs = signed_text (get_or vs 0 (pos 0))
field_text Required vs = signed_text (get_or vs 0 (pos 0))
field_text Micros vs = signed_text (get_or vs 0 (pos 0))
field_text Duration vs = signed_text (get_or vs 0 (pos 0))
field_text Count vs = signed_text (get_or vs 0 (pos 0))
field_text Natural vs = signed_text (get_or vs 0 (pos 0))
field_text Decimal vs = decimal_text (record { mantissa = get_or vs 0 (pos 0); exponent = get_or vs 1 (pos 0) })
field_text Dwell vs = signed_text (get_or vs 0 (pos 0))
field_text Absent vs = []

-- the words of a row
unfoldable pub texts_of : List Kind → List ℤ → List (List ℕ)
texts_of [] vs = []
texts_of (k ∷ ks) vs = cond (is_absent k) (texts_of ks (drop (width_of k) vs)) (field_text k vs ∷ texts_of ks (drop (width_of k) vs))

-- ---- A row's line, without its end: its numbers behind the kind, by its columns
unfoldable pub row_text : List Kind → List ℤ → List ℕ
row_text ks vs = joined (texts_of ks vs)
