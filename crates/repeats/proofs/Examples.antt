-- Worked examples, computed from the definitions. Assumes nothing.
use Prim.Native.Nat.{ℕ}
use mathlib.Core.List.{List, [], ◌∷◌}
use mathlib.Core.Path.{◌≡◌, refl}
use Rattle.text.specs.Lines.{starts_lf, onto, lines_of}
use Rattle.text.specs.Marks.{is_blank, mark_of, is_comment, is_control, any_control, breaks_line}
use Rattle.text.specs.Blanks.{skipped, blank_len}
use Rattle.fields.specs.Fields.{ends_field, fields_of, field_at, word_len, body_len, trimmed}
use Rattle.text.specs.Words.{same_bytes, place_from}
use Rattle.signed.specs.Signed.{same_z, signed_of}
use Rattle.numeral.specs.Digits.{is_digit, all_digits, value_from, is_minus, sign_len}
use Rattle.numeral.specs.Integer.{in_range, is_integer, integer_of}
use Rattle.decimals.specs.Decimal.{up_to, whole, fraction, digits, is_mantissa, mantissa_part, exponent_part, is_exponent, exponent_of, strip_in, strip_from, kept, in_limits, is_unsigned, kept_of, decimal_of}
use Rattle.columns.specs.Columns.{columns_of}
use Rattle.columns.specs.Rows.{padded}
use Rattle.rows.specs.Cells.{natural_cell, decimal_cell, integer_cell, cell_of, with, row_from, row_is}
use Rattle.heads.specs.Heads.{is_name_byte, all_name_bytes, is_name, extension_names, extension_word, extension_head, extension_fields, extension_of, word_number_of}
use Rattle.places.specs.Places.{fresh}
use Rattle.sections.specs.Sections.{section_names, section_no, has_section, place_in}
use Rattle.sections.specs.Entering.{may_enter, enter_of, section_at, section_step}
use Rattle.sections.specs.Version.{major_word, minor_word, revision_word, version_row, edition_of, minor_row, version_step}
use Rattle.grammar.specs.Definitions.{key_of, value_of, is_definition}
use Rattle.grammar.specs.Steps.{blank_step, definition_step, given_row, row_step, listed_of, extension_row, extension_step, is_extension, extensions_step, shape_id_word, num_samples_word, head_row, head_step, counted_of, count_row, count_step, lines_step, plain_step, marked_step, step_of}
use Rattle.file.specs.Whole.{is_fault, is_row, gathered}
use Rattle.file.specs.Rows.{row_at, rows_from, rows_of}
use Rattle.tables.specs.Tables.{number_at, class_of, class_at, is_row_of}
use Rattle.duplicates.specs.Words.{row_names, found_names, once_of, word_of, words_in, word_at, words_of, is_same, next_line, earlier, again_line}
use Rattle.repeats.specs.Repeats.{is_row_like, next_row, rows_again, duplicate_of}

-- in 1.3 [DELAYS], 1 5, 2 5, [BLOCKS], 1 2 0 0 0 0 0 0
unfoldable once-each : List (List ℕ)
once-each =
    (91 ∷ 86 ∷ 69 ∷ 82 ∷ 83 ∷ 73 ∷ 79 ∷ 78 ∷ 93 ∷ [])
    ∷ (109 ∷ 97 ∷ 106 ∷ 111 ∷ 114 ∷ 32 ∷ 49 ∷ [])
    ∷ (109 ∷ 105 ∷ 110 ∷ 111 ∷ 114 ∷ 32 ∷ 51 ∷ [])
    ∷ (114 ∷ 101 ∷ 118 ∷ 105 ∷ 115 ∷ 105 ∷ 111 ∷ 110 ∷ 32 ∷ 49 ∷ [])
    ∷ (91 ∷ 68 ∷ 69 ∷ 76 ∷ 65 ∷ 89 ∷ 83 ∷ 93 ∷ [])
    ∷ (49 ∷ 32 ∷ 53 ∷ [])
    ∷ (50 ∷ 32 ∷ 53 ∷ [])
    ∷ (91 ∷ 66 ∷ 76 ∷ 79 ∷ 67 ∷ 75 ∷ 83 ∷ 93 ∷ [])
    ∷ (49 ∷ 32 ∷ 50 ∷ 32 ∷ 48 ∷ 32 ∷ 48 ∷ 32 ∷ 48 ∷ 32 ∷ 48 ∷ 32 ∷ 48 ∷ 32 ∷ 48 ∷ [])
    ∷ []

-- a delay and a block may have the same ID
all_once : rows_again (rows_from fresh 1 once-each) ≡ 0
unfolding once-each gathered row_at is_fault is_row is_row_like is_row_of class_at class_of number_at same_z next_row earlier rows_again onto is_blank mark_of is_comment is_control any_control breaks_line ends_field fields_of blank_len body_len trimmed same_bytes place_from is_digit all_digits value_from in_range is_integer integer_of columns_of natural_cell integer_cell cell_of with row_from padded row_is word_number_of section_names section_no has_section place_in may_enter enter_of section_at section_step major_word minor_word revision_word version_row edition_of minor_row version_step given_row row_step lines_step plain_step marked_step step_of
all_once = refl

-- in 1.3 [TRAP], 2 1 1 1 1 0, 1 1 1 1 1 0, [GRADIENTS], 3 1 1 0, 2 1 1 0
unfoldable gradient-twice : List (List ℕ)
gradient-twice =
    (91 ∷ 86 ∷ 69 ∷ 82 ∷ 83 ∷ 73 ∷ 79 ∷ 78 ∷ 93 ∷ [])
    ∷ (109 ∷ 97 ∷ 106 ∷ 111 ∷ 114 ∷ 32 ∷ 49 ∷ [])
    ∷ (109 ∷ 105 ∷ 110 ∷ 111 ∷ 114 ∷ 32 ∷ 51 ∷ [])
    ∷ (114 ∷ 101 ∷ 118 ∷ 105 ∷ 115 ∷ 105 ∷ 111 ∷ 110 ∷ 32 ∷ 49 ∷ [])
    ∷ (91 ∷ 84 ∷ 82 ∷ 65 ∷ 80 ∷ 93 ∷ [])
    ∷ (50 ∷ 32 ∷ 49 ∷ 32 ∷ 49 ∷ 32 ∷ 49 ∷ 32 ∷ 49 ∷ 32 ∷ 48 ∷ [])
    ∷ (49 ∷ 32 ∷ 49 ∷ 32 ∷ 49 ∷ 32 ∷ 49 ∷ 32 ∷ 49 ∷ 32 ∷ 48 ∷ [])
    ∷ (91 ∷ 71 ∷ 82 ∷ 65 ∷ 68 ∷ 73 ∷ 69 ∷ 78 ∷ 84 ∷ 83 ∷ 93 ∷ [])
    ∷ (51 ∷ 32 ∷ 49 ∷ 32 ∷ 49 ∷ 32 ∷ 48 ∷ [])
    ∷ (50 ∷ 32 ∷ 49 ∷ 32 ∷ 49 ∷ 32 ∷ 48 ∷ [])
    ∷ []

-- gradients and traps are one class
one_class : rows_again (rows_from fresh 1 gradient-twice) ≡ 10
unfolding gradient-twice decimal_cell up_to whole fraction digits is_mantissa mantissa_part exponent_part is_exponent exponent_of strip_in strip_from kept in_limits is_unsigned kept_of decimal_of sign_len is_minus signed_of gathered row_at is_fault is_row is_row_like is_row_of class_at class_of number_at same_z next_row earlier rows_again onto is_blank mark_of is_comment is_control any_control breaks_line ends_field fields_of blank_len body_len trimmed same_bytes place_from is_digit all_digits value_from in_range is_integer integer_of columns_of natural_cell integer_cell cell_of with row_from padded row_is word_number_of section_names section_no has_section place_in may_enter enter_of section_at section_step major_word minor_word revision_word version_row edition_of minor_row version_step given_row row_step lines_step plain_step marked_step step_of
one_class = refl

-- in 1.4 [SHAPES], shape_id 1, num_samples 1, a blank line, shape_id 2, num_samples 1, a blank line, shape_id 01, a comment, num_samples 2
unfoldable shape-twice : List (List ℕ)
shape-twice =
    (91 ∷ 86 ∷ 69 ∷ 82 ∷ 83 ∷ 73 ∷ 79 ∷ 78 ∷ 93 ∷ [])
    ∷ (109 ∷ 97 ∷ 106 ∷ 111 ∷ 114 ∷ 32 ∷ 49 ∷ [])
    ∷ (109 ∷ 105 ∷ 110 ∷ 111 ∷ 114 ∷ 32 ∷ 52 ∷ [])
    ∷ (114 ∷ 101 ∷ 118 ∷ 105 ∷ 115 ∷ 105 ∷ 111 ∷ 110 ∷ 32 ∷ 48 ∷ [])
    ∷ (91 ∷ 83 ∷ 72 ∷ 65 ∷ 80 ∷ 69 ∷ 83 ∷ 93 ∷ [])
    ∷ (115 ∷ 104 ∷ 97 ∷ 112 ∷ 101 ∷ 95 ∷ 105 ∷ 100 ∷ 32 ∷ 49 ∷ [])
    ∷ (110 ∷ 117 ∷ 109 ∷ 95 ∷ 115 ∷ 97 ∷ 109 ∷ 112 ∷ 108 ∷ 101 ∷ 115 ∷ 32 ∷ 49 ∷ [])
    ∷ []
    ∷ (115 ∷ 104 ∷ 97 ∷ 112 ∷ 101 ∷ 95 ∷ 105 ∷ 100 ∷ 32 ∷ 50 ∷ [])
    ∷ (110 ∷ 117 ∷ 109 ∷ 95 ∷ 115 ∷ 97 ∷ 109 ∷ 112 ∷ 108 ∷ 101 ∷ 115 ∷ 32 ∷ 49 ∷ [])
    ∷ []
    ∷ (115 ∷ 104 ∷ 97 ∷ 112 ∷ 101 ∷ 95 ∷ 105 ∷ 100 ∷ 32 ∷ 48 ∷ 49 ∷ [])
    ∷ (35 ∷ [])
    ∷ (110 ∷ 117 ∷ 109 ∷ 95 ∷ 115 ∷ 97 ∷ 109 ∷ 112 ∷ 108 ∷ 101 ∷ 115 ∷ 32 ∷ 50 ∷ [])
    ∷ []

-- the line of the head that is met again, and not that of its count, which gives the row
head-line : rows_again (rows_from fresh 1 shape-twice) ≡ 12
unfolding shape-twice blank_step shape_id_word num_samples_word head_row head_step counted_of count_row count_step gathered row_at is_fault is_row is_row_like is_row_of class_at class_of number_at same_z next_row earlier rows_again onto is_blank mark_of is_comment is_control any_control breaks_line ends_field fields_of blank_len body_len trimmed same_bytes place_from is_digit all_digits value_from in_range is_integer integer_of columns_of natural_cell integer_cell cell_of with row_from padded row_is word_number_of section_names section_no has_section place_in may_enter enter_of section_at section_step major_word minor_word revision_word version_row edition_of minor_row version_step given_row row_step lines_step plain_step marked_step step_of
head-line = refl

-- in 1.4 [EXTENSIONS], extension a 1, extension b 1, extension a 2, each line with its LF
unfoldable types-and-names : List ℕ
types-and-names =
    91 ∷ 86 ∷ 69 ∷ 82 ∷ 83 ∷ 73 ∷ 79 ∷ 78 ∷ 93 ∷ 10
    ∷ 109 ∷ 97 ∷ 106 ∷ 111 ∷ 114 ∷ 32 ∷ 49 ∷ 10
    ∷ 109 ∷ 105 ∷ 110 ∷ 111 ∷ 114 ∷ 32 ∷ 52 ∷ 10
    ∷ 114 ∷ 101 ∷ 118 ∷ 105 ∷ 115 ∷ 105 ∷ 111 ∷ 110 ∷ 32 ∷ 48 ∷ 10
    ∷ 91 ∷ 69 ∷ 88 ∷ 84 ∷ 69 ∷ 78 ∷ 83 ∷ 73 ∷ 79 ∷ 78 ∷ 83 ∷ 93 ∷ 10
    ∷ 101 ∷ 120 ∷ 116 ∷ 101 ∷ 110 ∷ 115 ∷ 105 ∷ 111 ∷ 110 ∷ 32 ∷ 97 ∷ 32 ∷ 49 ∷ 10
    ∷ 101 ∷ 120 ∷ 116 ∷ 101 ∷ 110 ∷ 115 ∷ 105 ∷ 111 ∷ 110 ∷ 32 ∷ 98 ∷ 32 ∷ 49 ∷ 10
    ∷ 101 ∷ 120 ∷ 116 ∷ 101 ∷ 110 ∷ 115 ∷ 105 ∷ 111 ∷ 110 ∷ 32 ∷ 97 ∷ 32 ∷ 50 ∷ 10
    ∷ []

-- the type that is met again at line 7, before the name that is met again at line 8
type-first : duplicate_of types-and-names ≡ 7
unfolding types-and-names duplicate_of rows_of words_of lines_of starts_lf row_names found_names once_of word_of words_in word_at is_same next_line again_line field_at skipped word_len key_of value_of is_definition definition_step is_name_byte all_name_bytes is_name extension_names extension_word extension_head extension_fields extension_of listed_of extension_row extension_step is_extension extensions_step gathered row_at is_fault is_row is_row_like is_row_of class_at class_of number_at same_z next_row earlier rows_again onto is_blank mark_of is_comment is_control any_control breaks_line ends_field fields_of blank_len body_len trimmed same_bytes place_from is_digit all_digits value_from in_range is_integer integer_of columns_of natural_cell integer_cell cell_of with row_from padded row_is word_number_of section_names section_no has_section place_in may_enter enter_of section_at section_step major_word minor_word revision_word version_row edition_of minor_row version_step given_row row_step lines_step plain_step marked_step step_of
type-first = refl
