-- Worked examples, computed from the definitions. Assumes nothing.
use Prim.Native.Nat.{ℕ}
use mathlib.Core.List.{List, [], ◌∷◌}
use mathlib.Core.Path.{◌≡◌, refl}
use Rattle.text.specs.Lines.{starts_lf, onto, lines_of}
use Rattle.text.specs.Marks.{is_blank, mark_of, is_comment, is_control, any_control, breaks_line}
use Rattle.text.specs.Blanks.{skipped, blank_len}
use Rattle.text.specs.Words.{same_bytes, place_from}
use Rattle.fields.specs.Fields.{ends_field, fields_of, field_at, word_len, body_len, trimmed}
use Rattle.numeral.specs.Digits.{is_digit, all_digits, value_from}
use Rattle.numeral.specs.Integer.{in_range, is_integer, integer_of}
use Rattle.shape.specs.declared.Edition.TheVariants.{V13, V14}
use Rattle.heads.specs.Heads.{word_number_of}
use Rattle.sections.specs.Sections.{section_names, section_no, has_section, place_in}
use Rattle.sections.specs.Entering.{may_enter, enter_of, section_at, section_step}
use Rattle.sections.specs.Version.{major_word, minor_word, revision_word, version_row, edition_of, minor_row, version_step}
use Rattle.grammar.specs.Definitions.{key_of, value_of, is_definition}
use Rattle.grammar.specs.Steps.{definition_step, lines_step, plain_step, marked_step, step_of}
use Rattle.file.specs.Whole.{is_fault, is_defined, gathered}
use Rattle.definitions.specs.Definitions.{definition_at, definitions_of, site_mark, site_line, site_at, site_in, site_definitions, sought}
use Rattle.rasters.specs.Rasters.{gradient_key, rf_key, adc_key, block_key}
use Rattle.definition_text.specs.Definitions.{definition_line, definition_lines, absent_line, added_lines, definitions_text, definitions_head, definition_section}

-- [VERSION], major 1, minor 3, revision 1
unfoldable bare : List ℕ
bare =
    91 ∷ 86 ∷ 69 ∷ 82 ∷ 83 ∷ 73 ∷ 79 ∷ 78 ∷ 93 ∷ 10
    ∷ 109 ∷ 97 ∷ 106 ∷ 111 ∷ 114 ∷ 32 ∷ 49 ∷ 10
    ∷ 109 ∷ 105 ∷ 110 ∷ 111 ∷ 114 ∷ 32 ∷ 51 ∷ 10
    ∷ 114 ∷ 101 ∷ 118 ∷ 105 ∷ 115 ∷ 105 ∷ 111 ∷ 110 ∷ 32 ∷ 49 ∷ 10
    ∷ []

-- the same, then [DEFINITIONS], N with the value `a`, tab, `b` among blanks, and AdcRasterTime 1
unfoldable defined : List ℕ
defined =
    91 ∷ 86 ∷ 69 ∷ 82 ∷ 83 ∷ 73 ∷ 79 ∷ 78 ∷ 93 ∷ 10
    ∷ 109 ∷ 97 ∷ 106 ∷ 111 ∷ 114 ∷ 32 ∷ 49 ∷ 10
    ∷ 109 ∷ 105 ∷ 110 ∷ 111 ∷ 114 ∷ 32 ∷ 51 ∷ 10
    ∷ 114 ∷ 101 ∷ 118 ∷ 105 ∷ 115 ∷ 105 ∷ 111 ∷ 110 ∷ 32 ∷ 49 ∷ 10
    ∷ 91 ∷ 68 ∷ 69 ∷ 70 ∷ 73 ∷ 78 ∷ 73 ∷ 84 ∷ 73 ∷ 79 ∷ 78 ∷ 83 ∷ 93 ∷ 13 ∷ 10
    ∷ 32 ∷ 78 ∷ 32 ∷ 32 ∷ 97 ∷ 9 ∷ 98 ∷ 32 ∷ 10
    ∷ 65 ∷ 100 ∷ 99 ∷ 82 ∷ 97 ∷ 115 ∷ 116 ∷ 101 ∷ 114 ∷ 84 ∷ 105 ∷ 109 ∷ 101 ∷ 32 ∷ 49 ∷ 10
    ∷ []

-- a site: GradientRasterTime 2, RadiofrequencyRasterTime 3, AdcRasterTime 4, a comment, BlockDurationRaster 5
unfoldable four : List ℕ
four =
    71 ∷ 114 ∷ 97 ∷ 100 ∷ 105 ∷ 101 ∷ 110 ∷ 116 ∷ 82 ∷ 97 ∷ 115 ∷ 116 ∷ 101 ∷ 114 ∷ 84 ∷ 105 ∷ 109 ∷ 101 ∷ 32 ∷ 50 ∷ 10
    ∷ 82 ∷ 97 ∷ 100 ∷ 105 ∷ 111 ∷ 102 ∷ 114 ∷ 101 ∷ 113 ∷ 117 ∷ 101 ∷ 110 ∷ 99 ∷ 121 ∷ 82 ∷ 97 ∷ 115 ∷ 116 ∷ 101 ∷ 114 ∷ 84 ∷ 105 ∷ 109 ∷ 101 ∷ 9 ∷ 51 ∷ 10
    ∷ 65 ∷ 100 ∷ 99 ∷ 82 ∷ 97 ∷ 115 ∷ 116 ∷ 101 ∷ 114 ∷ 84 ∷ 105 ∷ 109 ∷ 101 ∷ 32 ∷ 52 ∷ 10
    ∷ 35 ∷ 32 ∷ 120 ∷ 10
    ∷ 66 ∷ 108 ∷ 111 ∷ 99 ∷ 107 ∷ 68 ∷ 117 ∷ 114 ∷ 97 ∷ 116 ∷ 105 ∷ 111 ∷ 110 ∷ 82 ∷ 97 ∷ 115 ∷ 116 ∷ 101 ∷ 114 ∷ 32 ∷ 53
    ∷ []

-- for 1.3.1 the file's own, a space behind each key, the values as read
own_alone : definition_section V13 defined four ≡
    91 ∷ 68 ∷ 69 ∷ 70 ∷ 73 ∷ 78 ∷ 73 ∷ 84 ∷ 73 ∷ 79 ∷ 78 ∷ 83 ∷ 93 ∷ 10
    ∷ 78 ∷ 32 ∷ 97 ∷ 9 ∷ 98 ∷ 10
    ∷ 65 ∷ 100 ∷ 99 ∷ 82 ∷ 97 ∷ 115 ∷ 116 ∷ 101 ∷ 114 ∷ 84 ∷ 105 ∷ 109 ∷ 101 ∷ 32 ∷ 49 ∷ 10
    ∷ 10
    ∷ []
unfolding defined four definition_line definition_lines absent_line added_lines definitions_text definitions_head definition_section definition_at definitions_of site_mark site_line site_at site_in site_definitions sought gradient_key rf_key adc_key block_key gathered is_fault is_defined key_of value_of is_definition starts_lf onto lines_of is_blank mark_of is_comment is_control any_control breaks_line ends_field fields_of field_at skipped word_len blank_len body_len trimmed same_bytes place_from is_digit all_digits value_from in_range is_integer integer_of word_number_of section_names section_no has_section place_in may_enter enter_of section_at section_step major_word minor_word revision_word version_row edition_of minor_row version_step definition_step lines_step plain_step marked_step step_of
own_alone = refl

-- for 1.4.1 three rasters are added; AdcRasterTime stays the file's
three-added : definition_section V14 defined four ≡
    91 ∷ 68 ∷ 69 ∷ 70 ∷ 73 ∷ 78 ∷ 73 ∷ 84 ∷ 73 ∷ 79 ∷ 78 ∷ 83 ∷ 93 ∷ 10
    ∷ 78 ∷ 32 ∷ 97 ∷ 9 ∷ 98 ∷ 10
    ∷ 65 ∷ 100 ∷ 99 ∷ 82 ∷ 97 ∷ 115 ∷ 116 ∷ 101 ∷ 114 ∷ 84 ∷ 105 ∷ 109 ∷ 101 ∷ 32 ∷ 49 ∷ 10
    ∷ 71 ∷ 114 ∷ 97 ∷ 100 ∷ 105 ∷ 101 ∷ 110 ∷ 116 ∷ 82 ∷ 97 ∷ 115 ∷ 116 ∷ 101 ∷ 114 ∷ 84 ∷ 105 ∷ 109 ∷ 101 ∷ 32 ∷ 50 ∷ 10
    ∷ 82 ∷ 97 ∷ 100 ∷ 105 ∷ 111 ∷ 102 ∷ 114 ∷ 101 ∷ 113 ∷ 117 ∷ 101 ∷ 110 ∷ 99 ∷ 121 ∷ 82 ∷ 97 ∷ 115 ∷ 116 ∷ 101 ∷ 114 ∷ 84 ∷ 105 ∷ 109 ∷ 101 ∷ 32 ∷ 51 ∷ 10
    ∷ 66 ∷ 108 ∷ 111 ∷ 99 ∷ 107 ∷ 68 ∷ 117 ∷ 114 ∷ 97 ∷ 116 ∷ 105 ∷ 111 ∷ 110 ∷ 82 ∷ 97 ∷ 115 ∷ 116 ∷ 101 ∷ 114 ∷ 32 ∷ 53 ∷ 10
    ∷ 10
    ∷ []
unfolding defined four definition_line definition_lines absent_line added_lines definitions_text definitions_head definition_section definition_at definitions_of site_mark site_line site_at site_in site_definitions sought gradient_key rf_key adc_key block_key gathered is_fault is_defined key_of value_of is_definition starts_lf onto lines_of is_blank mark_of is_comment is_control any_control breaks_line ends_field fields_of field_at skipped word_len blank_len body_len trimmed same_bytes place_from is_digit all_digits value_from in_range is_integer integer_of word_number_of section_names section_no has_section place_in may_enter enter_of section_at section_step major_word minor_word revision_word version_row edition_of minor_row version_step definition_step lines_step plain_step marked_step step_of
three-added = refl

-- for 1.3.1 a file that defines nothing has no such section
none_said : definition_section V13 bare four ≡ []
unfolding bare four definition_line definition_lines absent_line added_lines definitions_text definitions_head definition_section definition_at definitions_of site_mark site_line site_at site_in site_definitions sought gradient_key rf_key adc_key block_key gathered is_fault is_defined key_of value_of is_definition starts_lf onto lines_of is_blank mark_of is_comment is_control any_control breaks_line ends_field fields_of field_at skipped word_len blank_len body_len trimmed same_bytes place_from is_digit all_digits value_from in_range is_integer integer_of word_number_of section_names section_no has_section place_in may_enter enter_of section_at section_step major_word minor_word revision_word version_row edition_of minor_row version_step definition_step lines_step plain_step marked_step step_of
none_said = refl
