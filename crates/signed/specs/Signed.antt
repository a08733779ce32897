-- Signed numbers: equality, a sign put before a size, and a sum that is asked to stay within a size.
use Rattle.std.specs.Prelude.{ℕ, min, Bool, true, false, cond, eqb, leb, ℤ, pos, negsuc, nat_abs, neg_ℤ, None, Option, Some}

unfoldable pub same_z : ℤ → ℤ → Bool
same_z (pos a) (pos b) = eqb a b
same_z (pos a) (negsuc b) = false
same_z (negsuc a) (pos b) = false
same_z (negsuc a) (negsuc b) = eqb a b

unfoldable pub is_negative : ℤ → Bool
is_negative (pos n) = false
is_negative (negsuc n) = true

-- 2^63 - 1, the largest size that has both signs
abbrev pub largest : ℕ
largest = 9223372036854775807

-- a size with its sign; the sign of 0 does not matter
unfoldable pub signed_of : Bool → ℕ → ℤ
signed_of true n = neg_ℤ (pos n)
signed_of false n = pos n

-- a number whose size is at most so much
unfoldable pub within : ℕ → ℤ → Option ℤ
within most z = cond (leb (nat_abs z) (min most largest)) (Some z) None
