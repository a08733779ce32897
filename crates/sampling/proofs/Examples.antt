-- Worked examples, computed from the definitions. Assumes nothing.
use Prim.Native.Nat.{ℕ}
use mathlib.Core.List.{List, [], ◌∷◌, ◌++◌}
use mathlib.Core.Path.{◌≡◌, refl}
use lib.IntN.{ℤ, pos, negsuc}
use lib.ListN.{replicate}
use Rattle.text.specs.Lines.{starts_lf, onto, lines_of, whole_lines_of, bare_len, bare_of}
use Rattle.text.specs.Marks.{is_blank, mark_of, is_comment, is_control, any_control, breaks_line}
use Rattle.text.specs.Blanks.{blank_len}
use Rattle.fields.specs.Fields.{ends_field, fields_of, body_len, trimmed}
use Rattle.text.specs.Words.{same_bytes, place_from}
use Rattle.signed.specs.Signed.{same_z, is_negative, signed_of, within}
use Rattle.numeral.specs.Digits.{is_digit, all_digits, value_from, is_minus, sign_len}
use Rattle.numeral.specs.Integer.{in_range, is_integer, integer_of, signed_as}
use Rattle.decimals.specs.Decimal.{up_to, whole, fraction, digits, is_mantissa, mantissa_part, exponent_part, is_exponent, exponent_of, strip_in, strip_from, kept, in_limits, is_unsigned, kept_of, decimal_of, same_decimal}
use Rattle.numeral.specs.Worth.{whole_at, whole_of, nearest, round_at, rounded_of}
use Rattle.shape.specs.Stored.{number_item, fields_item, mark_item, item_of, is_sound, all_sound, with_item, values_in, values_of}
use Rattle.shape.specs.Samples.{sum_to, add_of, is_plain}
use Rattle.expanding.specs.Expand.{repeated, counted, fresh_of, then_sum, sums_of, plain_of, trace_of, samples_in, ends_well, expands_to, expansion_of}
use Rattle.expanding.specs.Alone.{is_count, expanded_of, table_from, samples_after, table_of}
use Rattle.shape.specs.declared.Edition.TheVariants.{V13, V14}
use Rattle.columns.specs.Rows.{padded}
use Rattle.heads.specs.Heads.{word_number_of}
use Rattle.sections.specs.Sections.{section_names, section_no, has_section, place_in}
use Rattle.grammar.specs.Steps.{blank_step, shape_id_word, num_samples_word, head_row, head_step, counted_of, count_row, count_step, value_row, lines_step, plain_step, marked_step, step_of}
use Rattle.sections.specs.Entering.{may_enter, enter_of, section_at, section_step}
use Rattle.sections.specs.Version.{major_word, minor_word, revision_word, version_row, edition_of, minor_row, version_step}
use Rattle.file.specs.Whole.{is_fault, is_row}
use Rattle.stored.specs.Shapes.{ends_shape, values_text, is_shape, stored_from, stored_of}
use Rattle.tables.specs.Tables.{first_such, number_at}
use Rattle.sampling.specs.Sampling.{is_shape_row, text_at, num_at, place_at, from_at, room_at, failed, fails_at, first_failing, laid_at, laid_from}

-- [VERSION], major 1, minor 4, revision 1, [SHAPES]; shape 1 of 2 samples: 1, -1; shape 2 of 3 samples: 1, 0, 0, 0
unfoldable two-shapes : List ℕ
two-shapes =
    91 ∷ 86 ∷ 69 ∷ 82 ∷ 83 ∷ 73 ∷ 79 ∷ 78 ∷ 93 ∷ 10
    ∷ 109 ∷ 97 ∷ 106 ∷ 111 ∷ 114 ∷ 32 ∷ 49 ∷ 10
    ∷ 109 ∷ 105 ∷ 110 ∷ 111 ∷ 114 ∷ 32 ∷ 52 ∷ 10
    ∷ 114 ∷ 101 ∷ 118 ∷ 105 ∷ 115 ∷ 105 ∷ 111 ∷ 110 ∷ 32 ∷ 49 ∷ 10
    ∷ 91 ∷ 83 ∷ 72 ∷ 65 ∷ 80 ∷ 69 ∷ 83 ∷ 93 ∷ 10
    ∷ 115 ∷ 104 ∷ 97 ∷ 112 ∷ 101 ∷ 95 ∷ 105 ∷ 100 ∷ 32 ∷ 49 ∷ 10
    ∷ 110 ∷ 117 ∷ 109 ∷ 95 ∷ 115 ∷ 97 ∷ 109 ∷ 112 ∷ 108 ∷ 101 ∷ 115 ∷ 32 ∷ 50 ∷ 10
    ∷ 49 ∷ 10
    ∷ 45 ∷ 49 ∷ 10
    ∷ 10
    ∷ 115 ∷ 104 ∷ 97 ∷ 112 ∷ 101 ∷ 95 ∷ 105 ∷ 100 ∷ 32 ∷ 50 ∷ 10
    ∷ 110 ∷ 117 ∷ 109 ∷ 95 ∷ 115 ∷ 97 ∷ 109 ∷ 112 ∷ 108 ∷ 101 ∷ 115 ∷ 32 ∷ 51 ∷ 10
    ∷ 49 ∷ 10
    ∷ 48 ∷ 10
    ∷ 48 ∷ 10
    ∷ 48 ∷ 10
    ∷ []

-- their rows, shape 2 with a number of samples
unfoldable two-rows : ℕ → List ℤ
two-rows num = (pos 11 ∷ pos 1 ∷ pos 2 ∷ pos 0 ∷ replicate 8 (pos 0)) ++ (pos 11 ∷ pos 2 ∷ pos num ∷ pos 2 ∷ replicate 8 (pos 0))

-- both expand, the second as a run; the last two of the seven numbers lent are in no part
laid_both : laid_from V14 two-shapes (two-rows 3) 7 0 2 (replicate 7 (pos 9))
    ≡ pos 1000000000000 ∷ negsuc 999999999999 ∷ pos 1000000000000 ∷ pos 1000000000000 ∷ pos 1000000000000 ∷ pos 9 ∷ pos 9 ∷ []
unfolding two-shapes two-rows is_shape_row text_at num_at place_at from_at room_at failed fails_at laid_at laid_from number_at onto is_blank mark_of is_comment is_control any_control breaks_line ends_field fields_of blank_len body_len trimmed same_bytes place_from is_digit all_digits value_from in_range is_integer integer_of padded word_number_of section_names section_no has_section place_in may_enter enter_of section_at section_step major_word minor_word revision_word version_row edition_of minor_row version_step shape_id_word num_samples_word head_row head_step counted_of count_row count_step value_row blank_step lines_step plain_step marked_step step_of is_fault is_row whole_lines_of bare_len bare_of ends_shape values_text is_shape stored_from stored_of starts_lf lines_of same_z is_negative signed_of within is_minus sign_len signed_as up_to whole fraction digits is_mantissa mantissa_part exponent_part is_exponent exponent_of strip_in strip_from kept in_limits is_unsigned kept_of decimal_of same_decimal whole_at whole_of nearest round_at rounded_of number_item fields_item mark_item item_of is_sound all_sound with_item values_in values_of repeated counted fresh_of sum_to add_of then_sum sums_of plain_of is_plain trace_of samples_in ends_well expands_to expansion_of is_count expanded_of table_from samples_after table_of
laid_both = refl

-- in 1.3 the second is no shape of 4 samples: its part holds zeros
second-fails : first_failing V13 two-shapes (two-rows 4) 7 2 ≡ 1
unfolding two-shapes two-rows first_such first_failing is_shape_row text_at num_at place_at from_at room_at failed fails_at number_at onto is_blank mark_of is_comment is_control any_control breaks_line ends_field fields_of blank_len body_len trimmed same_bytes place_from is_digit all_digits value_from in_range is_integer integer_of padded word_number_of section_names section_no has_section place_in may_enter enter_of section_at section_step major_word minor_word revision_word version_row edition_of minor_row version_step shape_id_word num_samples_word head_row head_step counted_of count_row count_step value_row blank_step lines_step plain_step marked_step step_of is_fault is_row whole_lines_of bare_len bare_of ends_shape values_text is_shape stored_from stored_of starts_lf lines_of same_z is_negative signed_of within is_minus sign_len signed_as up_to whole fraction digits is_mantissa mantissa_part exponent_part is_exponent exponent_of strip_in strip_from kept in_limits is_unsigned kept_of decimal_of same_decimal whole_at whole_of nearest round_at rounded_of number_item fields_item mark_item item_of is_sound all_sound with_item values_in values_of repeated counted fresh_of sum_to add_of then_sum sums_of plain_of is_plain trace_of samples_in ends_well expands_to expansion_of is_count expanded_of table_from samples_after table_of
second-fails = refl

laid-first : laid_from V13 two-shapes (two-rows 4) 7 0 2 (replicate 7 (pos 9)) ≡ pos 1000000000000 ∷ pos 0 ∷ pos 0 ∷ pos 0 ∷ pos 0 ∷ pos 0 ∷ pos 9 ∷ []
unfolding two-shapes two-rows is_shape_row text_at num_at place_at from_at room_at failed fails_at laid_at laid_from number_at onto is_blank mark_of is_comment is_control any_control breaks_line ends_field fields_of blank_len body_len trimmed same_bytes place_from is_digit all_digits value_from in_range is_integer integer_of padded word_number_of section_names section_no has_section place_in may_enter enter_of section_at section_step major_word minor_word revision_word version_row edition_of minor_row version_step shape_id_word num_samples_word head_row head_step counted_of count_row count_step value_row blank_step lines_step plain_step marked_step step_of is_fault is_row whole_lines_of bare_len bare_of ends_shape values_text is_shape stored_from stored_of starts_lf lines_of same_z is_negative signed_of within is_minus sign_len signed_as up_to whole fraction digits is_mantissa mantissa_part exponent_part is_exponent exponent_of strip_in strip_from kept in_limits is_unsigned kept_of decimal_of same_decimal whole_at whole_of nearest round_at rounded_of number_item fields_item mark_item item_of is_sound all_sound with_item values_in values_of repeated counted fresh_of sum_to add_of then_sum sums_of plain_of is_plain trace_of samples_in ends_well expands_to expansion_of is_count expanded_of table_from samples_after table_of
laid-first = refl
