-- Worked examples, computed from the definitions. Assumes nothing.
use Rattle.std.proofs.Common.{None, Option, Some}
use Rattle.numeral.specs.declared.Decimal.{Decimal}
use Prim.Native.Nat.{ℕ}
use mathlib.Core.List.{List, [], ◌∷◌}
use mathlib.Core.Path.{◌≡◌, refl}
use lib.IntN.{ℤ, pos, negsuc}
use Rattle.signed.specs.Signed.{is_negative, signed_of}
use Rattle.numeral.specs.Digits.{is_digit, all_digits, value_from, is_minus, sign_len}
use Rattle.numeral.specs.Integer.{in_range, signed_as}
use Rattle.decimals.specs.Decimal.{up_to, whole, fraction, digits, is_mantissa, mantissa_part, exponent_part, is_exponent, exponent_of, strip_in, strip_from, kept, in_limits, is_unsigned, kept_of, decimal_of}
use Rattle.numeral.specs.Worth.{whole_at, whole_of, nearest, round_at, rounded_of}

-- a list of fields, each with what it is worth
pub data Fields : List (List ℕ × (Option Decimal)) → Type 0 where
  none : Fields []
  next : {s : List ℕ} {n : (Option Decimal)} {r : List (List ℕ × (Option Decimal))} → decimal_of s ≡ n → Fields r → Fields ((s, n) ∷ r)

good : ℤ → ℤ → Option Decimal
good m e = Some (record { mantissa = m; exponent = e })

decimals : Fields (
    (49 ∷ 46 ∷ 53 ∷ 48 ∷ 101 ∷ 51 ∷ [], good (pos 15) (pos 2))  -- 1.50e3
    ∷ (45 ∷ 48 ∷ [], good (pos 0) (pos 0))  -- -0
    ∷ (43 ∷ 46 ∷ 53 ∷ [], good (pos 5) (negsuc 0))  -- +.5
    ∷ (45 ∷ 55 ∷ 69 ∷ 43 ∷ 57 ∷ 57 ∷ [], good (negsuc 6) (pos 99))  -- -7E+99
    ∷ (49 ∷ 48 ∷ 101 ∷ 57 ∷ 57 ∷ [], None)  -- 10e99
    ∷ (48 ∷ 46 ∷ 48 ∷ 48 ∷ 49 ∷ 101 ∷ 45 ∷ 57 ∷ 54 ∷ [], good (pos 1) (negsuc 98))  -- 0.001e-96
    ∷ (48 ∷ 46 ∷ 48 ∷ 48 ∷ 49 ∷ 101 ∷ 45 ∷ 57 ∷ 55 ∷ [], None)  -- 0.001e-97
    ∷ (48 ∷ 46 ∷ 48 ∷ 101 ∷ 45 ∷ 57 ∷ 57 ∷ [], good (pos 0) (pos 0))  -- 0.0e-99
    ∷ ([], None)
    ∷ (46 ∷ [], None)  -- .
    ∷ (49 ∷ 46 ∷ 50 ∷ 46 ∷ 51 ∷ [], None)  -- 1.2.3
    ∷ (49 ∷ 101 ∷ [], None)  -- 1e
    ∷ [])
unfolding good is_digit all_digits value_from is_minus sign_len up_to whole fraction digits is_mantissa mantissa_part exponent_part is_exponent exponent_of strip_in strip_from kept in_limits is_unsigned kept_of decimal_of signed_of
decimals = next refl (next refl (next refl (next refl (next refl (next refl (next refl (next refl (next refl (next refl (next refl (next refl none)))))))))))

-- 5e-13 is one step of 10^-12, -5e-13 minus one, 4.9e-13 none
half : rounded_of (record { mantissa = pos 5; exponent = negsuc 12 }) ≡ Some (pos 1)
unfolding rounded_of round_at nearest in_range signed_as signed_of is_negative
half = refl

minus-half : rounded_of (record { mantissa = negsuc 4; exponent = negsuc 12 }) ≡ Some (negsuc 0)
unfolding rounded_of round_at nearest in_range signed_as signed_of is_negative
minus-half = refl

less-than-half : rounded_of (record { mantissa = pos 49; exponent = negsuc 13 }) ≡ Some (pos 0)
unfolding rounded_of round_at nearest in_range signed_as signed_of is_negative
less-than-half = refl

-- 1e-05 s is 10,000 ns
raster : whole_of (record { mantissa = pos 1; exponent = negsuc 4 }) 9 1 1000000 ≡ Some 10000
unfolding whole_of whole_at in_range is_negative
raster = refl
