-- Worked examples, computed from the definitions. Assumes nothing.
use Rattle.shape_text.specs.declared.Unwritten.TheVariants.{Shape}
use Rattle.std.proofs.Common.{Err}
use mathlib.Core.List.{[], ◌∷◌}
use mathlib.Core.Path.{◌≡◌, refl}
use lib.IntN.{pos, negsuc}
use Rattle.signed.specs.Signed.{is_negative, signed_of, same_z}
use Rattle.decimals.specs.Decimal.{strip_in, strip_from, kept}
use Rattle.print.specs.Printed.{digits_in, digits_of, number_text, signed_text, power_text, decimal_text, sample_text}
use Rattle.shape.specs.declared.Edition.TheVariants.{V13, V14}
use Rattle.shape_text.specs.Written.{differences_from, on_run, runs_of, run_lines, runs_lines, packed_lines, plain_lines, is_plain_text, stored_lines, ended_lines, text_of, all_within, is_writable, written_of, output_after, output_of}

-- 0, 0, 1 has the differences 0, 0, 1: in 1.3 these are 0, 0, a count of 0 more, and 1
rise-13 : stored_lines V13 (pos 0 ∷ pos 0 ∷ pos 1000000000000 ∷ []) ≡ (48 ∷ []) ∷ (48 ∷ []) ∷ (48 ∷ []) ∷ (49 ∷ []) ∷ []
unfolding stored_lines is_plain_text packed_lines plain_lines runs_lines run_lines runs_of on_run differences_from digits_in digits_of number_text signed_text power_text decimal_text sample_text strip_in strip_from kept is_negative signed_of same_z
rise-13 = refl

-- in 1.4 the three samples are fewer values
rise-14 : stored_lines V14 (pos 0 ∷ pos 0 ∷ pos 1000000000000 ∷ []) ≡ (48 ∷ []) ∷ (48 ∷ []) ∷ (49 ∷ []) ∷ []
unfolding stored_lines is_plain_text packed_lines plain_lines runs_lines run_lines runs_of on_run differences_from digits_in digits_of number_text signed_text power_text decimal_text sample_text strip_in strip_from kept is_negative signed_of same_z
rise-14 = refl

-- three samples of 0 are three values either way, and then stand as they are
level : stored_lines V14 (pos 0 ∷ pos 0 ∷ pos 0 ∷ []) ≡ (48 ∷ []) ∷ (48 ∷ []) ∷ (48 ∷ []) ∷ []
unfolding stored_lines is_plain_text packed_lines plain_lines runs_lines run_lines runs_of on_run differences_from digits_in digits_of number_text signed_text power_text decimal_text sample_text strip_in strip_from kept is_negative signed_of same_z
level = refl

-- five samples that rise by 0.2 each are a run of five: 2e-1, 2e-1, and 3 more
ramp : stored_lines V14 (pos 200000000000 ∷ pos 400000000000 ∷ pos 600000000000 ∷ pos 800000000000 ∷ pos 1000000000000 ∷ [])
    ≡ (50 ∷ 101 ∷ 45 ∷ 49 ∷ []) ∷ (50 ∷ 101 ∷ 45 ∷ 49 ∷ []) ∷ (51 ∷ []) ∷ []
unfolding stored_lines is_plain_text packed_lines plain_lines runs_lines run_lines runs_of on_run differences_from digits_in digits_of number_text signed_text power_text decimal_text sample_text strip_in strip_from kept is_negative signed_of same_z
ramp = refl

-- a single sample of -0.5 is -5e-1 and an LF; the rest of the output is zeros
single : output_of V14 (negsuc 499999999999 ∷ []) 8 ≡ 45 ∷ 53 ∷ 101 ∷ 45 ∷ 49 ∷ 10 ∷ 0 ∷ 0 ∷ []
unfolding output_of output_after written_of is_writable all_within text_of ended_lines stored_lines is_plain_text packed_lines plain_lines runs_lines run_lines runs_of on_run differences_from digits_in digits_of number_text signed_text power_text decimal_text sample_text strip_in strip_from kept is_negative signed_of same_z
single = refl

-- a step beyond 100,000 is refused
beyond : written_of V13 (pos 100000000000000001 ∷ []) 100 ≡ (Err Shape)
unfolding written_of is_writable all_within
beyond = refl
