-- Worked examples, computed from the definitions. Assumes nothing.
use Rattle.std.proofs.Common.{Option, None, Some}
use Prim.Native.Nat.{ℕ}
use mathlib.Core.List.{List, [], ◌∷◌}
use mathlib.Core.Path.{◌≡◌, refl}
use lib.IntN.{ℤ, pos, negsuc}
use lib.ListN.{replicate}
use Rattle.text.specs.Lines.{onto, starts_lf, bare_len, pass_len, bare_of, line_at}
use Rattle.text.specs.Marks.{is_blank, mark_of, is_comment, is_control, any_control, breaks_line}
use Rattle.fields.specs.Fields.{ends_field, fields_of}
use Rattle.signed.specs.Signed.{is_negative, signed_of}
use Rattle.numeral.specs.Digits.{is_digit, all_digits, value_from, is_minus, sign_len}
use Rattle.numeral.specs.Integer.{in_range, is_integer, integer_of}
use Rattle.decimals.specs.Decimal.{up_to, whole, fraction, digits, is_mantissa, mantissa_part, exponent_part, is_exponent, exponent_of, strip_in, strip_from, kept, in_limits, is_unsigned, kept_of, decimal_of}
use Rattle.numeral.specs.Worth.{whole_at, whole_of}
use Rattle.shape.specs.declared.Edition.{Edition}
use Rattle.shape.specs.declared.Edition.TheVariants.{V13, V14}
use Rattle.columns.specs.Columns.{columns_of}
use Rattle.columns.specs.Rows.{padded}
use Rattle.rows.specs.Cells.{natural_cell, decimal_cell, dwell_cell, integer_cell, cell_of, with, row_from, row_is}
use Rattle.rows.specs.Placed.{allowed_row, placed_row, line_row_of}
use Rattle.columns.specs.declared.Form.{Form}
use Rattle.columns.specs.declared.Form.TheVariants.{Block, Gradient, Adc, Delay, Entry}

-- a list of lines, each with its edition, its form and the numbers of its row
pub data Lines : List ((Edition × Form) × (List ℕ × Option (List ℤ))) → Type 0 where
  done : Lines []
  next : {e : Edition} {f : Form} {s : List ℕ} {v : Option (List ℤ)} {r : List ((Edition × Form) × (List ℕ × Option (List ℤ)))}
      → row_from (columns_of e f) (fields_of s) ≡ v → Lines r → Lines (((e, f), (s, v)) ∷ r)

rows : Lines (
    ((V14, Gradient), (51 ∷ 32 ∷ 45 ∷ 49 ∷ 46 ∷ 53 ∷ 48 ∷ 32 ∷ 50 ∷ 32 ∷ 52 ∷ 32 ∷ 49 ∷ 48 ∷ 48 ∷ [], Some (pos 3 ∷ negsuc 14 ∷ negsuc 0 ∷ pos 2 ∷ pos 4 ∷ pos 100 ∷ [])))  -- 3 -1.50 2 4 100
    ∷ ((V13, Gradient), (51 ∷ 32 ∷ 45 ∷ 49 ∷ 46 ∷ 53 ∷ 48 ∷ 32 ∷ 50 ∷ 32 ∷ 52 ∷ 32 ∷ 49 ∷ 48 ∷ 48 ∷ [], None))  -- 3 -1.50 2 4 100
    ∷ ((V13, Gradient), (51 ∷ 32 ∷ 45 ∷ 49 ∷ 46 ∷ 53 ∷ 48 ∷ 32 ∷ 50 ∷ 32 ∷ 49 ∷ 48 ∷ 48 ∷ [], Some (pos 3 ∷ negsuc 14 ∷ negsuc 0 ∷ pos 2 ∷ pos 0 ∷ pos 100 ∷ [])))  -- 3 -1.50 2 100
    ∷ ((V14, Block), (49 ∷ 32 ∷ 55 ∷ 32 ∷ 48 ∷ 32 ∷ 48 ∷ 32 ∷ 48 ∷ 32 ∷ 48 ∷ 32 ∷ 50 ∷ 32 ∷ 48 ∷ [], Some (pos 1 ∷ pos 7 ∷ pos 0 ∷ pos 0 ∷ pos 0 ∷ pos 0 ∷ pos 2 ∷ pos 0 ∷ pos 0 ∷ [])))  -- 1 7 0 0 0 0 2 0
    ∷ ((V14, Adc), (49 ∷ 32 ∷ 52 ∷ 32 ∷ 50 ∷ 46 ∷ 53 ∷ 101 ∷ 49 ∷ 32 ∷ 48 ∷ 32 ∷ 48 ∷ 32 ∷ 48 ∷ [], Some (pos 1 ∷ pos 4 ∷ pos 25 ∷ pos 0 ∷ pos 0 ∷ pos 0 ∷ pos 0 ∷ pos 0 ∷ [])))  -- 1 4 2.5e1 0 0 0
    ∷ ((V14, Adc), (49 ∷ 32 ∷ 52 ∷ 32 ∷ 50 ∷ 46 ∷ 53 ∷ 32 ∷ 48 ∷ 32 ∷ 48 ∷ 32 ∷ 48 ∷ [], None))  -- 1 4 2.5 0 0 0
    ∷ ((V13, Entry), (49 ∷ 32 ∷ 49 ∷ 32 ∷ 48 ∷ 32 ∷ 48 ∷ [], None))  -- 1 1 0 0
    ∷ ((V13, Delay), (49 ∷ 32 ∷ 49 ∷ 48 ∷ 48 ∷ [], Some (pos 1 ∷ pos 100 ∷ [])))  -- 1 100
    ∷ ((V13, Delay), (49 ∷ 32 ∷ 49 ∷ 48 ∷ 48 ∷ 32 ∷ 48 ∷ [], None))  -- 1 100 0
    ∷ [])
unfolding onto is_blank ends_field fields_of is_negative signed_of is_digit all_digits value_from is_minus sign_len in_range is_integer integer_of up_to whole fraction digits is_mantissa mantissa_part exponent_part is_exponent exponent_of strip_in strip_from kept in_limits is_unsigned kept_of decimal_of whole_at whole_of columns_of natural_cell decimal_cell dwell_cell integer_cell cell_of with row_from
rows = next refl (next refl (next refl (next refl (next refl (next refl (next refl (next refl (next refl done))))))))

-- the second line of "#", "1 100" with CR and LF, "2"
second-line : line_row_of V13 Delay (35 ∷ 10 ∷ 49 ∷ 32 ∷ 49 ∷ 48 ∷ 48 ∷ 13 ∷ 10 ∷ 50 ∷ []) 2 ≡ record { row = Some (pos 6 ∷ pos 1 ∷ pos 100 ∷ replicate 9 (pos 0)); next = 9 }
unfolding onto is_blank ends_field fields_of is_digit all_digits value_from in_range is_integer integer_of columns_of natural_cell integer_cell cell_of with row_from starts_lf bare_len pass_len bare_of line_at mark_of is_comment is_control any_control breaks_line padded row_is allowed_row placed_row line_row_of
second-line = refl

-- a comment that holds the byte 1
comment-line : line_row_of V13 Delay (35 ∷ 1 ∷ 10 ∷ []) 0 ≡ record { row = None; next = 3 }
unfolding onto is_blank ends_field fields_of is_digit all_digits value_from in_range is_integer integer_of columns_of natural_cell integer_cell cell_of with row_from starts_lf bare_len pass_len bare_of line_at mark_of is_comment is_control any_control breaks_line row_is allowed_row placed_row line_row_of
comment-line = refl
