-- Worked examples, computed from the definitions. Assumes nothing.
use Prim.Native.Nat.{ℕ}
use mathlib.Core.List.{List, [], ◌∷◌}
use mathlib.Core.Path.{◌≡◌, refl}
use lib.IntN.{pos}
use lib.ListN.{replicate}
use Rattle.text.specs.Lines.{onto, lines_of}
use Rattle.text.specs.Marks.{is_blank, mark_of, is_comment, is_control, any_control, breaks_line}
use Rattle.text.specs.Blanks.{blank_len}
use Rattle.fields.specs.Fields.{ends_field, fields_of, body_len, trimmed}
use Rattle.text.specs.Words.{same_bytes, place_from}
use Rattle.numeral.specs.Digits.{is_digit, all_digits, value_from}
use Rattle.numeral.specs.Integer.{in_range, is_integer, integer_of}
use Rattle.columns.specs.Columns.{columns_of}
use Rattle.columns.specs.Rows.{padded}
use Rattle.rows.specs.Cells.{natural_cell, integer_cell, cell_of, with, row_from, row_is}
use Rattle.heads.specs.Heads.{word_number_of}
use Rattle.sections.specs.Sections.{section_names, section_no, has_section, place_in}
use Rattle.places.specs.Places.{fresh}
use Rattle.sections.specs.Entering.{may_enter, enter_of, section_at, section_step}
use Rattle.sections.specs.Version.{major_word, minor_word, revision_word, version_row, edition_of, minor_row, version_step}
use Rattle.grammar.specs.Steps.{given_row, row_step, lines_step, plain_step, marked_step, step_of}
use Rattle.places.specs.declared.Fault.TheVariants.{Version as VersionFault, Section as SectionFault}
use Rattle.file.specs.Whole.{stopped, judged, verdict_from, verdict_of, is_fault, is_row, gathered}
use Rattle.file.specs.Rows.{row_at, rows_from}

-- an empty file: `major` is due at its end
empty : verdict_of [] ≡ stopped VersionFault 0
unfolding verdict_of lines_of verdict_from judged
empty = refl

-- [VERSION], major 1, minor 3, revision 1, [DELAYS], 2 500
unfoldable delay-13 : List (List ℕ)
delay-13 =
    (91 ∷ 86 ∷ 69 ∷ 82 ∷ 83 ∷ 73 ∷ 79 ∷ 78 ∷ 93 ∷ [])
    ∷ (109 ∷ 97 ∷ 106 ∷ 111 ∷ 114 ∷ 32 ∷ 49 ∷ [])
    ∷ (109 ∷ 105 ∷ 110 ∷ 111 ∷ 114 ∷ 32 ∷ 51 ∷ [])
    ∷ (114 ∷ 101 ∷ 118 ∷ 105 ∷ 115 ∷ 105 ∷ 111 ∷ 110 ∷ 32 ∷ 49 ∷ [])
    ∷ (91 ∷ 68 ∷ 69 ∷ 76 ∷ 65 ∷ 89 ∷ 83 ∷ 93 ∷ [])
    ∷ (50 ∷ 32 ∷ 53 ∷ 48 ∷ 48 ∷ [])
    ∷ []

-- the same in 1.4.0
unfoldable delay-14 : List (List ℕ)
delay-14 =
    (91 ∷ 86 ∷ 69 ∷ 82 ∷ 83 ∷ 73 ∷ 79 ∷ 78 ∷ 93 ∷ [])
    ∷ (109 ∷ 97 ∷ 106 ∷ 111 ∷ 114 ∷ 32 ∷ 49 ∷ [])
    ∷ (109 ∷ 105 ∷ 110 ∷ 111 ∷ 114 ∷ 32 ∷ 52 ∷ [])
    ∷ (114 ∷ 101 ∷ 118 ∷ 105 ∷ 115 ∷ 105 ∷ 111 ∷ 110 ∷ 32 ∷ 48 ∷ [])
    ∷ (32 ∷ 91 ∷ 68 ∷ 69 ∷ 76 ∷ 65 ∷ 89 ∷ 83 ∷ 93 ∷ [])
    ∷ []

-- a delay of 500 microseconds, at line 6
delay-row : rows_from fresh 1 delay-13 ≡ record { line = 6; cells = pos 6 ∷ pos 2 ∷ pos 500 ∷ replicate 9 (pos 0) } ∷ []
unfolding delay-13 gathered row_at is_fault is_row onto is_blank mark_of is_comment is_control any_control breaks_line ends_field fields_of blank_len body_len trimmed same_bytes place_from is_digit all_digits value_from in_range is_integer integer_of columns_of natural_cell integer_cell cell_of with row_from padded row_is word_number_of section_names section_no has_section place_in may_enter enter_of section_at section_step major_word minor_word revision_word version_row edition_of minor_row version_step given_row row_step lines_step plain_step marked_step step_of
delay-row = refl

-- 1.4 has no such section
delay-refused : verdict_from fresh 1 delay-14 ≡ stopped SectionFault 5
unfolding delay-14 verdict_from judged onto is_blank mark_of is_comment is_control any_control breaks_line ends_field fields_of blank_len body_len trimmed same_bytes place_from is_digit all_digits value_from in_range is_integer integer_of word_number_of section_names section_no has_section place_in may_enter enter_of section_at section_step major_word minor_word revision_word version_row edition_of minor_row version_step plain_step marked_step step_of
delay-refused = refl
