-- Worked examples, computed from the definitions. Assumes nothing.
use mathlib.Core.List.{List, [], ◌∷◌}
use mathlib.Core.Path.{◌≡◌, refl}
use lib.IntN.{ℤ, pos, negsuc}
use Rattle.signed.specs.Signed.{is_negative, signed_of, same_z}
use Rattle.decimals.specs.Decimal.{strip_in, strip_from, kept}
use Rattle.print.specs.Printed.{digits_in, digits_of, number_text, signed_text, power_text, decimal_text, sample_text}
use Rattle.shape.specs.declared.Edition.TheVariants.{V13, V14}
use Rattle.shape_text.specs.Written.{differences_from, on_run, runs_of, run_lines, runs_lines, packed_lines, plain_lines, is_plain_text, stored_lines, ended_lines, text_of, all_within, stored_text}
use Rattle.tables.specs.Tables.{first_such, number_at, samples_at}
use Rattle.grammar.specs.Steps.{shape_id_word, num_samples_word}
use Rattle.sayable.specs.Sayable.{is_kind}
use Rattle.said.specs.Said.{lines_text, has_kind}
use Rattle.shape_section.specs.Shapes.{shapes_head, word_line, shape_text, shape_line, shape_section}

-- a trap, shape 7 of three samples, 0, 0 and 1, and shape 3 of one, -0.5
rows : List ℤ
rows =
    pos 4 ∷ pos 2 ∷ negsuc 404 ∷ negsuc 0 ∷ pos 10 ∷ pos 980 ∷ pos 10 ∷ pos 100 ∷ pos 0 ∷ pos 0 ∷ pos 0 ∷ pos 0 ∷ pos 11 ∷ pos 7 ∷ pos 3 ∷ pos 0 ∷ pos 0 ∷ pos 0 ∷ pos 0 ∷ pos 0 ∷ pos 0 ∷ pos 0 ∷ pos 0 ∷ pos 0 ∷ pos 11 ∷ pos 3 ∷ pos 1 ∷ pos 3 ∷ pos 0 ∷ pos 0 ∷ pos 0 ∷ pos 0 ∷ pos 0 ∷ pos 0 ∷ pos 0 ∷ pos 0 ∷ []

samples : List ℤ
samples = pos 0 ∷ pos 0 ∷ pos 1000000000000 ∷ negsuc 499999999999 ∷ []

-- each shape is followed by a blank line, and the section by no other; in 1.3 the samples of shape 7 are differences: 0, 0, a count of 0 more, and 1
two-13 : shape_section V13 rows 3 samples
    ≡ 91 ∷ 83 ∷ 72 ∷ 65 ∷ 80 ∷ 69 ∷ 83 ∷ 93 ∷ 10 ∷ 115 ∷ 104 ∷ 97 ∷ 112 ∷ 101 ∷ 95 ∷ 105 ∷ 100 ∷ 32 ∷ 55 ∷ 10 ∷ 110 ∷ 117 ∷ 109 ∷ 95 ∷ 115 ∷ 97 ∷ 109 ∷ 112 ∷ 108 ∷ 101 ∷ 115 ∷ 32 ∷ 51 ∷ 10 ∷ 48 ∷ 10 ∷ 48 ∷ 10 ∷ 48 ∷ 10 ∷ 49 ∷ 10 ∷ 10 ∷ 115 ∷ 104 ∷ 97 ∷ 112 ∷ 101 ∷ 95 ∷ 105 ∷ 100 ∷ 32 ∷ 51 ∷ 10 ∷ 110 ∷ 117 ∷ 109 ∷ 95 ∷ 115 ∷ 97 ∷ 109 ∷ 112 ∷ 108 ∷ 101 ∷ 115 ∷ 32 ∷ 49 ∷ 10 ∷ 45 ∷ 53 ∷ 101 ∷ 45 ∷ 49 ∷ 10 ∷ 10 ∷ []
unfolding rows samples shape_section has_kind first_such is_kind number_at lines_text shape_line shape_text shapes_head word_line shape_id_word num_samples_word samples_at stored_text all_within text_of ended_lines stored_lines is_plain_text packed_lines plain_lines runs_lines run_lines runs_of on_run differences_from digits_in digits_of number_text signed_text power_text decimal_text sample_text strip_in strip_from kept is_negative signed_of same_z
two-13 = refl

-- in 1.4 they stand as they are
two-14 : shape_section V14 rows 3 samples
    ≡ 91 ∷ 83 ∷ 72 ∷ 65 ∷ 80 ∷ 69 ∷ 83 ∷ 93 ∷ 10 ∷ 115 ∷ 104 ∷ 97 ∷ 112 ∷ 101 ∷ 95 ∷ 105 ∷ 100 ∷ 32 ∷ 55 ∷ 10 ∷ 110 ∷ 117 ∷ 109 ∷ 95 ∷ 115 ∷ 97 ∷ 109 ∷ 112 ∷ 108 ∷ 101 ∷ 115 ∷ 32 ∷ 51 ∷ 10 ∷ 48 ∷ 10 ∷ 48 ∷ 10 ∷ 49 ∷ 10 ∷ 10 ∷ 115 ∷ 104 ∷ 97 ∷ 112 ∷ 101 ∷ 95 ∷ 105 ∷ 100 ∷ 32 ∷ 51 ∷ 10 ∷ 110 ∷ 117 ∷ 109 ∷ 95 ∷ 115 ∷ 97 ∷ 109 ∷ 112 ∷ 108 ∷ 101 ∷ 115 ∷ 32 ∷ 49 ∷ 10 ∷ 45 ∷ 53 ∷ 101 ∷ 45 ∷ 49 ∷ 10 ∷ 10 ∷ []
unfolding rows samples shape_section has_kind first_such is_kind number_at lines_text shape_line shape_text shapes_head word_line shape_id_word num_samples_word samples_at stored_text all_within text_of ended_lines stored_lines is_plain_text packed_lines plain_lines runs_lines run_lines runs_of on_run differences_from digits_in digits_of number_text signed_text power_text decimal_text sample_text strip_in strip_from kept is_negative signed_of same_z
two-14 = refl

-- of the first row alone there is no shape, and so no section
no-shape : shape_section V14 rows 1 samples ≡ []
unfolding rows samples shape_section has_kind first_such is_kind number_at same_z
no-shape = refl
