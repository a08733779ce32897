-- Integer fields. "Integer: digits, at most 10; a counter value may have a minus first." A column asks for a range.
use Rattle.std.specs.Prelude.{ℕ, List, Bool, cond, ◌&&◌, leb, length, drop, None, Option, Some, ℤ}
use Rattle.signed.specs.Signed.{signed_of}
use Rattle.numeral.specs.Digits.{all_digits, value_of, is_minus}

-- "M = 2,147,483,647", the largest ID, type and counter
abbrev pub largest_id : ℕ
largest_id = 2147483647

-- a number in a range
unfoldable pub in_range : ℕ → ℕ → ℕ → Option ℕ
in_range low high n = cond (leb low n && leb n high) (Some n) None

unfoldable pub is_integer : List ℕ → Bool
is_integer s = leb 1 (length s) && leb (length s) 10 && all_digits s

unfoldable pub integer_of : ℕ → ℕ → List ℕ → Option ℕ
integer_of low high s = cond (is_integer s) (in_range low high (value_of s)) None

-- a size with its sign, where there is one
unfoldable pub signed_as : Bool → Option ℕ → Option ℤ
signed_as negative (Some n) = Some (signed_of negative n)
signed_as negative None = None

-- from -most to most
unfoldable pub counter_of : ℕ → List ℕ → Option ℤ
counter_of most s = signed_as (is_minus s) (integer_of 0 most (drop (cond (is_minus s) 1 0) s))
