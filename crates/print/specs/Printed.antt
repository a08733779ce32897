-- Numbers written out. "Other decimals and samples are mantissa, then `e` and exponent if not 0; counts and dwell plain."
use Rattle.std.specs.Prelude.{ℕ, zero, suc, ◌+◌, ◌/◌, ◌%◌, Bool, true, false, cond, List, [], ◌∷◌, ◌++◌, ltb, ℤ, pos, negsuc, nat_abs}
use Rattle.signed.specs.Signed.{is_negative, same_z}
use Rattle.decimals.specs.Decimal.{kept}
use Rattle.numeral.specs.declared.Decimal.{Decimal}

-- ---- Digits, with no leading zeros; k bounds how deep the recursion goes
unfoldable pub digits_in : ℕ → ℕ → List ℕ
digits_in zero n = (48 + n) ∷ []
digits_in (suc k) n =
    let more : List ℕ = digits_in k (n / 10) ++ ((48 + n % 10) ∷ []) in
    cond (ltb n 10) ((48 + n) ∷ []) more

unfoldable pub digits_of : ℕ → List ℕ
digits_of n = digits_in n n

-- ---- A sign before them: '-' is 45
unfoldable pub number_text : Bool → ℕ → List ℕ
number_text true n = 45 ∷ digits_of n
number_text false n = digits_of n

unfoldable pub signed_text : ℤ → List ℕ
signed_text z = number_text (is_negative z) (nat_abs z)

-- ---- "mantissa, then `e` and exponent if not 0": 'e' is 101
unfoldable pub power_text : ℤ → List ℕ
power_text e = cond (same_z e (pos 0)) [] (101 ∷ signed_text e)

unfoldable pub decimal_text : Decimal → List ℕ
decimal_text d = signed_text d.mantissa ++ power_text d.exponent

-- ---- A sample is a number of steps of 10^-12
unfoldable pub sample_text : ℤ → List ℕ
sample_text z = decimal_text (kept (is_negative z) (nat_abs z) (negsuc 11))
