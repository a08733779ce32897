-- What a decimal is worth as a whole number, and rounded to steps of 10^-12.
use Rattle.std.specs.Prelude.{ℕ, suc, ◌+◌, ◌*◌, ◌/◌, ◌%◌, ◌^◌, cond, eqb, ℤ, pos, negsuc, nat_abs, ◌+ℤ◌, None, Option}
use Rattle.signed.specs.Signed.{is_negative}
use Rattle.numeral.specs.Integer.{in_range, signed_as}
use Rattle.numeral.specs.declared.Decimal.{Decimal}

-- ---- "a decimal worth a whole 1 to 10^9 ns", "decimals in seconds worth a whole 1 to 10^6 ns", "a whole count, 0 to 10^6":
-- the decimal times 10^shift is whole and in a range
unfoldable pub whole_at : ℕ → ℕ → ℕ → ℤ → Option ℕ
whole_at low high n (pos k) = in_range low high (n * 10 ^ k)
whole_at low high n (negsuc k) = cond (eqb (n % 10 ^ suc k) 0) (in_range low high (n / 10 ^ suc k)) None

unfoldable pub whole_of : Decimal → ℕ → ℕ → ℕ → Option ℕ
whole_of d shift low high =
    cond (is_negative d.mantissa) None (whole_at low high (nat_abs d.mantissa) (d.exponent +ℤ pos shift))

-- ---- "rounded to a multiple of 10^-12, ties away from zero"; "a value beyond ±200,000" is refused
-- n / p, to the nearest whole number; half a step goes up
unfoldable pub nearest : ℕ → ℕ → ℕ
nearest n p = (n + p / 2) / p

-- the size of n times 10^e as a whole number
unfoldable pub round_at : ℕ → ℤ → ℕ
round_at n (pos k) = n * 10 ^ k
round_at n (negsuc k) = nearest n (10 ^ suc k)

-- in steps of 10^-12; 200,000 are 2 * 10^17 steps
unfoldable pub rounded_of : Decimal → Option ℤ
rounded_of d =
    signed_as (is_negative d.mantissa) (in_range 0 (2 * 10 ^ 17) (round_at (nat_abs d.mantissa) (d.exponent +ℤ pos 12)))
