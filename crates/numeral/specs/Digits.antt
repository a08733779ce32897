-- Decimal digits and signs.
use Rattle.std.specs.Prelude.{ℕ, ◌+◌, ◌*◌, ◌-◌, List, [], ◌∷◌, Bool, true, false, cond, ◌&&◌, ◌||◌, eqb, leb, drop}

-- ---- The bytes of '0' to '9' are 48 to 57
unfoldable pub is_digit : ℕ → Bool
is_digit b = leb 48 b && leb b 57

unfoldable pub all_digits : List ℕ → Bool
all_digits [] = true
all_digits (b ∷ bs) = is_digit b && all_digits bs

-- what digits are worth behind a number that stands already
unfoldable pub value_from : ℕ → List ℕ → ℕ
value_from v [] = v
value_from v (b ∷ bs) = value_from (v * 10 + (b - 48)) bs

abbrev pub value_of : List ℕ → ℕ
value_of s = value_from 0 s

-- ---- '-' is 45 and '+' is 43
unfoldable pub is_minus : List ℕ → Bool
is_minus [] = false
is_minus (b ∷ s) = eqb b 45

unfoldable pub sign_len : List ℕ → ℕ
sign_len [] = 0
sign_len (b ∷ s) = cond (eqb b 45 || eqb b 43) 1 0

-- what stands behind an optional sign
abbrev pub unsigned : List ℕ → List ℕ
unsigned s = drop (sign_len s) s
