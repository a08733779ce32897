-- Worked examples, computed from the definitions. Assumes nothing.
use mathlib.Core.List.{[], ◌∷◌}
use mathlib.Core.Path.{◌≡◌, refl}
use lib.IntN.{pos, negsuc}
use Rattle.signed.specs.Signed.{is_negative, signed_of, same_z}
use Rattle.decimals.specs.Decimal.{strip_in, strip_from, kept}
use Rattle.print.specs.Printed.{digits_in, digits_of, number_text, signed_text, power_text, decimal_text, sample_text}

-- -40.50 is kept as -405 and -1, and printed -405e-1
amplitude : decimal_text (record { mantissa = negsuc 404; exponent = negsuc 0 }) ≡ 45 ∷ 52 ∷ 48 ∷ 53 ∷ 101 ∷ 45 ∷ 49 ∷ []
unfolding digits_in digits_of number_text signed_text power_text decimal_text is_negative same_z
amplitude = refl

-- 0 is 0
nothing : decimal_text (record { mantissa = pos 0; exponent = pos 0 }) ≡ 48 ∷ []
unfolding digits_in digits_of number_text signed_text power_text decimal_text is_negative same_z
nothing = refl

-- a sample of 2500 is 25e2
large : sample_text (pos 2500000000000000) ≡ 50 ∷ 53 ∷ 101 ∷ 50 ∷ []
unfolding digits_in digits_of number_text signed_text power_text decimal_text sample_text strip_in strip_from kept is_negative signed_of same_z
large = refl

-- a step down is -1e-12
step : sample_text (negsuc 0) ≡ 45 ∷ 49 ∷ 101 ∷ 45 ∷ 49 ∷ 50 ∷ []
unfolding digits_in digits_of number_text signed_text power_text decimal_text sample_text strip_in strip_from kept is_negative signed_of same_z
step = refl
