-- Worked examples, computed from the definitions. Assumes nothing.
use Prim.Native.Nat.{ℕ}
use mathlib.Core.List.{List, [], ◌∷◌}
use mathlib.Core.Path.{◌≡◌, refl}
use Rattle.text.specs.Lines.{onto}
use Rattle.text.specs.Marks.{is_blank, mark_of, is_comment, is_control, any_control, breaks_line}
use Rattle.text.specs.Blanks.{skipped, blank_len}
use Rattle.fields.specs.Fields.{ends_field, fields_of, field_at, word_len, body_len, trimmed}
use Rattle.text.specs.Words.{same_bytes, place_from}
use Rattle.signed.specs.Signed.{same_z}
use Rattle.numeral.specs.Digits.{is_digit, all_digits, value_from}
use Rattle.numeral.specs.Integer.{in_range, is_integer, integer_of}
use Rattle.columns.specs.Rows.{padded}
use Rattle.heads.specs.Heads.{is_name_byte, all_name_bytes, is_name, extension_names, extension_word, extension_head, extension_fields, extension_of, word_number_of}
use Rattle.sections.specs.Sections.{section_names, section_no, has_section, place_in}
use Rattle.grammar.specs.Definitions.{key_of, value_of, is_definition}
use Rattle.places.specs.Places.{fresh}
use Rattle.grammar.specs.Steps.{blank_step, definition_step, listed_of, extension_row, extension_step, is_extension, extensions_step, lines_step, plain_step, marked_step, step_of}
use Rattle.sections.specs.Entering.{may_enter, enter_of, section_at, section_step}
use Rattle.sections.specs.Version.{major_word, minor_word, revision_word, version_row, edition_of, minor_row, version_step}
use Rattle.file.specs.Whole.{is_fault, gathered}
use Rattle.duplicates.specs.Words.{row_names, found_names, once_of, word_of, words_in, word_at, words_from, is_same, next_line, earlier, again_line}

-- [VERSION], major 1, minor 4, revision 0, [DEFINITIONS], a 1, b 1, [EXTENSIONS], extension b 1, extension c 2
unfoldable once-each : List (List ℕ)
once-each =
    (91 ∷ 86 ∷ 69 ∷ 82 ∷ 83 ∷ 73 ∷ 79 ∷ 78 ∷ 93 ∷ [])
    ∷ (109 ∷ 97 ∷ 106 ∷ 111 ∷ 114 ∷ 32 ∷ 49 ∷ [])
    ∷ (109 ∷ 105 ∷ 110 ∷ 111 ∷ 114 ∷ 32 ∷ 52 ∷ [])
    ∷ (114 ∷ 101 ∷ 118 ∷ 105 ∷ 115 ∷ 105 ∷ 111 ∷ 110 ∷ 32 ∷ 48 ∷ [])
    ∷ (91 ∷ 68 ∷ 69 ∷ 70 ∷ 73 ∷ 78 ∷ 73 ∷ 84 ∷ 73 ∷ 79 ∷ 78 ∷ 83 ∷ 93 ∷ [])
    ∷ (97 ∷ 32 ∷ 49 ∷ [])
    ∷ (98 ∷ 32 ∷ 49 ∷ [])
    ∷ (91 ∷ 69 ∷ 88 ∷ 84 ∷ 69 ∷ 78 ∷ 83 ∷ 73 ∷ 79 ∷ 78 ∷ 83 ∷ 93 ∷ [])
    ∷ (101 ∷ 120 ∷ 116 ∷ 101 ∷ 110 ∷ 115 ∷ 105 ∷ 111 ∷ 110 ∷ 32 ∷ 98 ∷ 32 ∷ 49 ∷ [])
    ∷ (101 ∷ 120 ∷ 116 ∷ 101 ∷ 110 ∷ 115 ∷ 105 ∷ 111 ∷ 110 ∷ 32 ∷ 99 ∷ 32 ∷ 50 ∷ [])
    ∷ []

-- a key and a name may be the same word
all_once : again_line (words_from fresh 1 once-each) ≡ 0
unfolding once-each gathered is_fault word_at words_in once_of found_names row_names word_of is_same next_line earlier again_line key_of value_of is_definition onto is_blank mark_of is_comment is_control any_control breaks_line ends_field fields_of field_at skipped word_len blank_len body_len trimmed same_bytes place_from same_z is_digit all_digits value_from in_range is_integer integer_of padded is_name_byte all_name_bytes is_name extension_names extension_word extension_head extension_fields extension_of word_number_of section_names section_no has_section place_in may_enter enter_of section_at section_step major_word minor_word revision_word version_row edition_of minor_row version_step definition_step listed_of extension_row extension_step is_extension extensions_step lines_step plain_step marked_step step_of
all_once = refl

-- behind VERSION [EXTENSIONS], extension b 1, extension c 2, extension a 4, a blank line, extension b 3, [DEFINITIONS], a 1, b 1, a 2
unfoldable twice : List (List ℕ)
twice =
    (91 ∷ 86 ∷ 69 ∷ 82 ∷ 83 ∷ 73 ∷ 79 ∷ 78 ∷ 93 ∷ [])
    ∷ (109 ∷ 97 ∷ 106 ∷ 111 ∷ 114 ∷ 32 ∷ 49 ∷ [])
    ∷ (109 ∷ 105 ∷ 110 ∷ 111 ∷ 114 ∷ 32 ∷ 52 ∷ [])
    ∷ (114 ∷ 101 ∷ 118 ∷ 105 ∷ 115 ∷ 105 ∷ 111 ∷ 110 ∷ 32 ∷ 48 ∷ [])
    ∷ (91 ∷ 69 ∷ 88 ∷ 84 ∷ 69 ∷ 78 ∷ 83 ∷ 73 ∷ 79 ∷ 78 ∷ 83 ∷ 93 ∷ [])
    ∷ (101 ∷ 120 ∷ 116 ∷ 101 ∷ 110 ∷ 115 ∷ 105 ∷ 111 ∷ 110 ∷ 32 ∷ 98 ∷ 32 ∷ 49 ∷ [])
    ∷ (101 ∷ 120 ∷ 116 ∷ 101 ∷ 110 ∷ 115 ∷ 105 ∷ 111 ∷ 110 ∷ 32 ∷ 99 ∷ 32 ∷ 50 ∷ [])
    ∷ (101 ∷ 120 ∷ 116 ∷ 101 ∷ 110 ∷ 115 ∷ 105 ∷ 111 ∷ 110 ∷ 32 ∷ 97 ∷ 32 ∷ 52 ∷ [])
    ∷ []
    ∷ (101 ∷ 120 ∷ 116 ∷ 101 ∷ 110 ∷ 115 ∷ 105 ∷ 111 ∷ 110 ∷ 32 ∷ 98 ∷ 32 ∷ 51 ∷ [])
    ∷ (91 ∷ 68 ∷ 69 ∷ 70 ∷ 73 ∷ 78 ∷ 73 ∷ 84 ∷ 73 ∷ 79 ∷ 78 ∷ 83 ∷ 93 ∷ [])
    ∷ (97 ∷ 32 ∷ 49 ∷ [])
    ∷ (98 ∷ 32 ∷ 49 ∷ [])
    ∷ (97 ∷ 32 ∷ 50 ∷ [])
    ∷ []

-- a name met again at line 10, before the key that is met again at line 14
first-twice : again_line (words_from fresh 1 twice) ≡ 10
unfolding twice blank_step gathered is_fault word_at words_in once_of found_names row_names word_of is_same next_line earlier again_line key_of value_of is_definition onto is_blank mark_of is_comment is_control any_control breaks_line ends_field fields_of field_at skipped word_len blank_len body_len trimmed same_bytes place_from same_z is_digit all_digits value_from in_range is_integer integer_of padded is_name_byte all_name_bytes is_name extension_names extension_word extension_head extension_fields extension_of word_number_of section_names section_no has_section place_in may_enter enter_of section_at section_step major_word minor_word revision_word version_row edition_of minor_row version_step definition_step listed_of extension_row extension_step is_extension extensions_step lines_step plain_step marked_step step_of
first-twice = refl
