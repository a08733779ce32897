-- Worked examples, computed from the definitions. Assumes nothing.
use Rattle.std.proofs.Common.{None}
use Prim.Native.Nat.{ℕ}
use mathlib.Core.List.{List, [], ◌∷◌}
use mathlib.Core.Path.{◌≡◌, refl}
use lib.IntN.{pos}
use Rattle.text.specs.Lines.{starts_lf, onto, lines_of, whole_lines_of, bare_len, bare_of}
use Rattle.text.specs.Marks.{is_blank, mark_of, is_comment, is_control, any_control, breaks_line}
use Rattle.fields.specs.Fields.{ends_field, fields_of, field_at, word_len, body_len, trimmed, trimmed_at}
use Rattle.text.specs.Blanks.{skipped, blank_len}
use Rattle.text.specs.Words.{same_bytes, place_from}
use Rattle.signed.specs.Signed.{same_z}
use Rattle.numeral.specs.Digits.{is_digit, all_digits, value_from}
use Rattle.numeral.specs.Integer.{in_range, is_integer, integer_of}
use Rattle.columns.specs.Rows.{padded}
use Rattle.heads.specs.Heads.{word_number_of}
use Rattle.sections.specs.Sections.{section_names, section_no, has_section, place_in}
use Rattle.sections.specs.Entering.{may_enter, enter_of, section_at, section_step}
use Rattle.sections.specs.Version.{major_word, minor_word, revision_word, version_row, edition_of, minor_row, version_step}
use Rattle.grammar.specs.Definitions.{key_of, value_of, value_part, is_definition}
use Rattle.grammar.specs.Parts.{moved_by, no_part}
use Rattle.grammar.specs.Steps.{blank_step, definition_step, shape_id_word, num_samples_word, head_row, head_step, counted_of, count_row, count_step, lines_step, plain_step, marked_step, step_of}
use Rattle.file.specs.Whole.{judged, verdict_from, verdict_of, is_fault, is_row, is_defined, gathered}
use Rattle.file.specs.Rows.{row_at, rows_of, answer_of, scanned_of}
use Rattle.definitions.specs.Definitions.{site_mark, site_line, site_at, site_in, site_definitions, any_fault, is_named, repeats, site_fault}
use Rattle.definitions.specs.Places.{place_or, file_place_from, file_place, site_place_from, site_place}
use Rattle.stored.specs.Shapes.{ends_shape, values_text, is_shape}
use Rattle.stored.specs.Places.{values_part, stored_place_from, stored_place}
use Rattle.duplicates.specs.Words.{row_names, found_names, once_of, word_of, words_in, word_at, words_of, is_same, next_line, earlier, again_line}
use Rattle.repeats.specs.Repeats.{next_row, rows_again, duplicate_of}
use Rattle.questions.specs.Asked.{is_big}
use Rattle.lookups.specs.Looking.{is_at_fault, is_faulty}
use Rattle.lookups.specs.Spots.{In, spot_in, definition_spot}
use Rattle.lookups.specs.declared.Source.TheVariants.{File, Site}

-- [VERSION], major 1, minor 4, revision 0, [DEFINITIONS], a with the value `1 2` among blanks, b 3; some lines end in CR LF, the last in nothing
unfoldable defined : List ℕ
defined =
    91 ∷ 86 ∷ 69 ∷ 82 ∷ 83 ∷ 73 ∷ 79 ∷ 78 ∷ 93 ∷ 13 ∷ 10
    ∷ 109 ∷ 97 ∷ 106 ∷ 111 ∷ 114 ∷ 32 ∷ 49 ∷ 10
    ∷ 109 ∷ 105 ∷ 110 ∷ 111 ∷ 114 ∷ 32 ∷ 52 ∷ 10
    ∷ 114 ∷ 101 ∷ 118 ∷ 105 ∷ 115 ∷ 105 ∷ 111 ∷ 110 ∷ 32 ∷ 48 ∷ 10
    ∷ 91 ∷ 68 ∷ 69 ∷ 70 ∷ 73 ∷ 78 ∷ 73 ∷ 84 ∷ 73 ∷ 79 ∷ 78 ∷ 83 ∷ 93 ∷ 13 ∷ 10
    ∷ 97 ∷ 32 ∷ 9 ∷ 32 ∷ 49 ∷ 32 ∷ 50 ∷ 32 ∷ 9 ∷ 13 ∷ 10
    ∷ 98 ∷ 32 ∷ 51
    ∷ []

-- blanks around a value are no part of it, those inside it are
inner-blanks : file_place defined (97 ∷ []) ≡ record { start = 57; stop = 60 }
unfolding defined file_place file_place_from key_of value_of value_part is_definition moved_by is_fault is_defined place_or starts_lf onto whole_lines_of bare_len bare_of is_blank mark_of is_comment is_control any_control breaks_line ends_field fields_of field_at skipped word_len blank_len body_len trimmed trimmed_at same_bytes place_from is_digit all_digits value_from in_range is_integer integer_of word_number_of section_names section_no has_section place_in may_enter enter_of section_at section_step major_word minor_word revision_word version_row edition_of minor_row version_step definition_step lines_step plain_step marked_step step_of
inner-blanks = refl

-- a line's end counts as it stands
behind-returns : file_place defined (98 ∷ []) ≡ record { start = 66; stop = 67 }
unfolding defined file_place file_place_from key_of value_of value_part is_definition moved_by is_fault is_defined place_or starts_lf onto whole_lines_of bare_len bare_of is_blank mark_of is_comment is_control any_control breaks_line ends_field fields_of field_at skipped word_len blank_len body_len trimmed trimmed_at same_bytes place_from is_digit all_digits value_from in_range is_integer integer_of word_number_of section_names section_no has_section place_in may_enter enter_of section_at section_step major_word minor_word revision_word version_row edition_of minor_row version_step definition_step lines_step plain_step marked_step step_of
behind-returns = refl

-- a key that is not there, and an empty one
no_key : file_place defined (99 ∷ []) ≡ no_part
unfolding defined file_place file_place_from key_of value_of value_part is_definition moved_by is_fault is_defined place_or starts_lf onto whole_lines_of bare_len bare_of is_blank mark_of is_comment is_control any_control breaks_line ends_field fields_of field_at skipped word_len blank_len body_len trimmed trimmed_at same_bytes place_from is_digit all_digits value_from in_range is_integer integer_of word_number_of section_names section_no has_section place_in may_enter enter_of section_at section_step major_word minor_word revision_word version_row edition_of minor_row version_step definition_step lines_step plain_step marked_step step_of
no_key = refl

empty-key : file_place defined [] ≡ no_part
unfolding defined file_place file_place_from key_of value_of value_part is_definition moved_by is_fault is_defined place_or starts_lf onto whole_lines_of bare_len bare_of is_blank mark_of is_comment is_control any_control breaks_line ends_field fields_of field_at skipped word_len blank_len body_len trimmed trimmed_at same_bytes place_from is_digit all_digits value_from in_range is_integer integer_of word_number_of section_names section_no has_section place_in may_enter enter_of section_at section_step major_word minor_word revision_word version_row edition_of minor_row version_step definition_step lines_step plain_step marked_step step_of
empty-key = refl

-- a comment, c 4 among blanks, b 5
unfoldable sited : List ℕ
sited =
    35 ∷ 32 ∷ 98 ∷ 32 ∷ 49 ∷ 13 ∷ 10
    ∷ 32 ∷ 99 ∷ 32 ∷ 32 ∷ 52 ∷ 32 ∷ 10
    ∷ 98 ∷ 32 ∷ 53 ∷ 10
    ∷ []

site-blanks : site_place sited (99 ∷ []) ≡ record { start = 11; stop = 12 }
unfolding sited site_place site_place_from site_mark site_line key_of value_of value_part is_definition moved_by is_fault is_defined place_or starts_lf onto whole_lines_of bare_len bare_of is_blank mark_of is_comment is_control any_control breaks_line ends_field fields_of field_at skipped word_len blank_len body_len trimmed trimmed_at same_bytes
site-blanks = refl

-- a comment defines nothing
site-comment : site_place sited (98 ∷ []) ≡ record { start = 16; stop = 17 }
unfolding sited site_place site_place_from site_mark site_line key_of value_of value_part is_definition moved_by is_fault is_defined place_or starts_lf onto whole_lines_of bare_len bare_of is_blank mark_of is_comment is_control any_control breaks_line ends_field fields_of field_at skipped word_len blank_len body_len trimmed trimmed_at same_bytes
site-comment = refl

-- in 1.4 [SHAPES], shape 4 of one sample with no value, shape 3 of two samples with a comment between its values
unfoldable shaped : List ℕ
shaped =
    91 ∷ 86 ∷ 69 ∷ 82 ∷ 83 ∷ 73 ∷ 79 ∷ 78 ∷ 93 ∷ 10
    ∷ 109 ∷ 97 ∷ 106 ∷ 111 ∷ 114 ∷ 32 ∷ 49 ∷ 10
    ∷ 109 ∷ 105 ∷ 110 ∷ 111 ∷ 114 ∷ 32 ∷ 52 ∷ 10
    ∷ 114 ∷ 101 ∷ 118 ∷ 105 ∷ 115 ∷ 105 ∷ 111 ∷ 110 ∷ 32 ∷ 48 ∷ 10
    ∷ 91 ∷ 83 ∷ 72 ∷ 65 ∷ 80 ∷ 69 ∷ 83 ∷ 93 ∷ 10
    ∷ 115 ∷ 104 ∷ 97 ∷ 112 ∷ 101 ∷ 95 ∷ 105 ∷ 100 ∷ 32 ∷ 52 ∷ 10
    ∷ 110 ∷ 117 ∷ 109 ∷ 95 ∷ 115 ∷ 97 ∷ 109 ∷ 112 ∷ 108 ∷ 101 ∷ 115 ∷ 32 ∷ 49 ∷ 10
    ∷ 10
    ∷ 115 ∷ 104 ∷ 97 ∷ 112 ∷ 101 ∷ 95 ∷ 105 ∷ 100 ∷ 32 ∷ 51 ∷ 10
    ∷ 110 ∷ 117 ∷ 109 ∷ 95 ∷ 115 ∷ 97 ∷ 109 ∷ 112 ∷ 108 ∷ 101 ∷ 115 ∷ 32 ∷ 50 ∷ 13 ∷ 10
    ∷ 49 ∷ 13 ∷ 10
    ∷ 35 ∷ 32 ∷ 99 ∷ 10
    ∷ 48 ∷ 10
    ∷ 10
    ∷ []

-- from behind the line of `num_samples` to the blank line, with the comment
with-comment : stored_place shaped (pos 3) ≡ record { start = 98; stop = 107 }
unfolding shaped stored_place stored_place_from blank_step same_z padded ends_shape values_text is_shape is_row is_fault values_part shape_id_word num_samples_word head_row head_step counted_of count_row count_step lines_step plain_step marked_step step_of starts_lf onto whole_lines_of bare_len bare_of is_blank mark_of is_comment is_control any_control breaks_line ends_field fields_of field_at skipped word_len blank_len body_len trimmed trimmed_at same_bytes place_from is_digit all_digits value_from in_range is_integer integer_of word_number_of section_names section_no has_section place_in may_enter enter_of section_at section_step major_word minor_word revision_word version_row edition_of minor_row version_step
with-comment = refl

-- a shape with no values has no stored lines, but a place
no-values : stored_place shaped (pos 4) ≡ record { start = 71; stop = 71 }
unfolding shaped stored_place stored_place_from blank_step same_z padded ends_shape values_text is_shape is_row is_fault values_part shape_id_word num_samples_word head_row head_step counted_of count_row count_step lines_step plain_step marked_step step_of starts_lf onto whole_lines_of bare_len bare_of is_blank mark_of is_comment is_control any_control breaks_line ends_field fields_of field_at skipped word_len blank_len body_len trimmed trimmed_at same_bytes place_from is_digit all_digits value_from in_range is_integer integer_of word_number_of section_names section_no has_section place_in may_enter enter_of section_at section_step major_word minor_word revision_word version_row edition_of minor_row version_step
no-values = refl

-- a key that both define, and one that the site alone defines
both-define : definition_spot defined sited (98 ∷ []) ≡ In File 66 1
unfolding defined sited definition_spot spot_in is_faulty is_big is_at_fault is_row answer_of scanned_of verdict_of verdict_from judged site_fault any_fault site_definitions site_in site_at is_named repeats duplicate_of rows_again next_row rows_of row_at gathered words_of word_at words_in once_of found_names row_names word_of is_same next_line earlier again_line lines_of file_place file_place_from site_place site_place_from site_mark site_line key_of value_of value_part is_definition moved_by is_fault is_defined place_or starts_lf onto whole_lines_of bare_len bare_of is_blank mark_of is_comment is_control any_control breaks_line ends_field fields_of field_at skipped word_len blank_len body_len trimmed trimmed_at same_bytes place_from is_digit all_digits value_from in_range is_integer integer_of word_number_of section_names section_no has_section place_in may_enter enter_of section_at section_step major_word minor_word revision_word version_row edition_of minor_row version_step definition_step lines_step plain_step marked_step step_of
both-define = refl

site-defines : definition_spot defined sited (99 ∷ []) ≡ In Site 11 1
unfolding defined sited definition_spot spot_in is_faulty is_big is_at_fault is_row answer_of scanned_of verdict_of verdict_from judged site_fault any_fault site_definitions site_in site_at is_named repeats duplicate_of rows_again next_row rows_of row_at gathered words_of word_at words_in once_of found_names row_names word_of is_same next_line earlier again_line lines_of file_place file_place_from site_place site_place_from site_mark site_line key_of value_of value_part is_definition moved_by is_fault is_defined place_or starts_lf onto whole_lines_of bare_len bare_of is_blank mark_of is_comment is_control any_control breaks_line ends_field fields_of field_at skipped word_len blank_len body_len trimmed trimmed_at same_bytes place_from is_digit all_digits value_from in_range is_integer integer_of word_number_of section_names section_no has_section place_in may_enter enter_of section_at section_step major_word minor_word revision_word version_row edition_of minor_row version_step definition_step lines_step plain_step marked_step step_of
site-defines = refl

-- b 5, b 6
unfoldable again : List ℕ
again =
    98 ∷ 32 ∷ 53 ∷ 10
    ∷ 98 ∷ 32 ∷ 54 ∷ 10
    ∷ []

-- a site that repeats a key is at fault, and then nothing is found
site-at-fault : definition_spot defined again (98 ∷ []) ≡ None
unfolding defined again definition_spot spot_in is_faulty is_big is_at_fault is_row answer_of scanned_of verdict_of verdict_from judged site_fault any_fault site_definitions site_in site_at is_named repeats duplicate_of rows_again next_row rows_of row_at gathered words_of word_at words_in once_of found_names row_names word_of is_same next_line earlier again_line lines_of file_place file_place_from site_place site_place_from site_mark site_line key_of value_of value_part is_definition moved_by is_fault is_defined place_or starts_lf onto whole_lines_of bare_len bare_of is_blank mark_of is_comment is_control any_control breaks_line ends_field fields_of field_at skipped word_len blank_len body_len trimmed trimmed_at same_bytes place_from is_digit all_digits value_from in_range is_integer integer_of word_number_of section_names section_no has_section place_in may_enter enter_of section_at section_step major_word minor_word revision_word version_row edition_of minor_row version_step definition_step lines_step plain_step marked_step step_of
site-at-fault = refl
