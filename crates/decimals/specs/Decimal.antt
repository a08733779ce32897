-- Decimal fields. "Decimal: optional sign, digits with at most one point, at least one digit, optional e or E, optional sign, one or two
-- digits; at most 32 bytes. Kept exactly as mantissa and exponent without trailing zeros; zero is 0 and 0, also from -0. Mantissa at most
-- 18 digits, exponent -99 to 99."
use Rattle.std.specs.Prelude.{ℕ, zero, suc, ◌+◌, ◌/◌, ◌%◌, ◌^◌, List, [], ◌∷◌, ◌++◌, Bool, true, cond, ◌&&◌, ◌||◌, eqb, leb, ltb, ℤ, pos, nat_abs, ◌+ℤ◌, ◌-ℤ◌, length, drop, None, Option, Some}
use Rattle.signed.specs.Signed.{same_z, signed_of}
use Rattle.numeral.specs.Digits.{all_digits, value_of, is_minus, unsigned}
use Rattle.decimals.specs.declared.Stripped.{Stripped}
use Rattle.numeral.specs.declared.Decimal.{Decimal}

-- what stands before the first of two bytes
unfoldable pub up_to : ℕ → ℕ → List ℕ → List ℕ
up_to a b [] = []
up_to a b (x ∷ s) = cond (eqb x a || eqb x b) [] (x ∷ up_to a b s)

-- ---- "digits with at most one point, at least one digit". '.' is 46. A second point would be a byte of the fraction that is no digit.
unfoldable pub whole : List ℕ → List ℕ
whole m = up_to 46 46 m

unfoldable pub fraction : List ℕ → List ℕ
fraction m = drop (length (whole m) + 1) m

unfoldable pub digits : List ℕ → List ℕ
digits m = whole m ++ fraction m

unfoldable pub is_mantissa : List ℕ → Bool
is_mantissa m = leb 1 (length (digits m)) && all_digits (digits m)

-- ---- "optional e or E, optional sign, one or two digits". 'e' is 101 and 'E' is 69.
unfoldable pub mantissa_part : List ℕ → List ℕ
mantissa_part b = up_to 101 69 b

unfoldable pub exponent_part : List ℕ → List ℕ
exponent_part b = drop (length (mantissa_part b)) b

unfoldable pub is_exponent : List ℕ → Bool
is_exponent [] = true
is_exponent (e ∷ t) = leb 1 (length (unsigned t)) && leb (length (unsigned t)) 2 && all_digits (unsigned t)

unfoldable pub exponent_of : List ℕ → ℤ
exponent_of [] = pos 0
exponent_of (e ∷ t) = signed_of (is_minus t) (value_of (unsigned t))

-- ---- "Kept exactly as mantissa and exponent without trailing zeros; zero is 0 and 0"
-- a number without its trailing zeros, and how many more than z they are; k bounds how deep the recursion goes
unfoldable pub strip_in : ℕ → ℕ → ℕ → Stripped
strip_in zero n z = record { v = n; zeros = z }
strip_in (suc k) n z =
    let more : Stripped = strip_in k (n / 10) (z + 1) in
    cond (eqb (n % 10) 0) more (record { v = n; zeros = z })

unfoldable pub strip_from : ℕ → ℕ → Stripped
strip_from n z = strip_in n n z

unfoldable pub kept : Bool → ℕ → ℤ → Decimal
kept negative n e =
    cond (eqb n 0) (record { mantissa = pos 0; exponent = pos 0 })
    (record { mantissa = signed_of negative (strip_from n 0).v; exponent = e +ℤ pos (strip_from n 0).zeros })

-- ---- "Mantissa at most 18 digits, exponent -99 to 99."
unfoldable pub in_limits : Decimal → Bool
in_limits d = ltb (nat_abs d.mantissa) (10 ^ 18) && leb (nat_abs d.exponent) 99

-- ---- The whole field
-- the part behind the sign is of the form
unfoldable pub is_unsigned : List ℕ → Bool
is_unsigned b = is_mantissa (mantissa_part b) && is_exponent (exponent_part b)

-- what it is worth, with the sign
unfoldable pub kept_of : Bool → List ℕ → Decimal
kept_of negative b =
    kept negative (value_of (digits (mantissa_part b))) (exponent_of (exponent_part b) -ℤ pos (length (fraction (mantissa_part b))))

unfoldable pub decimal_of : List ℕ → Option Decimal
decimal_of s =
    cond (leb (length s) 32 && is_unsigned (unsigned s) && in_limits (kept_of (is_minus s) (unsigned s)))
    (Some (kept_of (is_minus s) (unsigned s)))
    None

-- ---- "Equality is of exact decimals." Kept pairs are in normal form, so equal pairs are equal values.
unfoldable pub same_decimal : Decimal → Decimal → Bool
same_decimal a b = same_z a.mantissa b.mantissa && same_z a.exponent b.exponent
