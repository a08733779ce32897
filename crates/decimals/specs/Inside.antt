-- What the inner functions answer. Nothing here needs to be believed: laws lead from these to the definitions of the other files.
use Rattle.numeral.specs.declared.Decimal.{Decimal}
use Rattle.std.specs.Prelude.{ℕ, ◌+◌, ◌*◌, ◌-◌, ◌^◌, ◌<◌, ◌≤◌, List, [], ◌∷◌, Bool, true, false, cond, ◌&&◌, ◌||◌, eqb, leb, ltb, pos, length, None, Option, Some}
use Rattle.std.proofs.Math.IntN.{sub_ℕ}
use Rattle.signed.specs.Signed.{signed_of}
use Rattle.numeral.specs.Digits.{is_digit, all_digits, value_of, is_minus, sign_len, unsigned}
use Rattle.decimals.specs.Decimal.{digits, fraction, is_mantissa, mantissa_part, exponent_part, strip_from}
use Rattle.decimals.specs.declared.Gathered.{Gathered}
use Rattle.decimals.specs.declared.Mantissa.{Mantissa}
use Rattle.decimals.specs.declared.Sign.{Sign}

-- ---- A sign in front
unfoldable pub sign_of : List ℕ → Sign
sign_of s = record { minus = is_minus s; len = sign_len s }

-- ---- Digits gathered into a number of at most 18 digits, a count of zeros behind it, and where they stop
-- from 10^17 on a number has its 18 digits, and only zeros may follow
abbrev pub full : ℕ
full = 100000000000000000

abbrev pub large : ℕ
large = 1000000000000000000

-- they stop at a point, or at an e or the end
abbrev pub at_point : ℕ → ℕ → ℕ → Option Gathered
at_point v z i = Some (record { v = v; zeros = z; stop = i; pointed = true })

abbrev pub at_end : ℕ → ℕ → ℕ → Option Gathered
at_end v z i = Some (record { v = v; zeros = z; stop = i; pointed = false })

-- a byte that is no digit ends them: a point, or e or E; '.' is 46, 'e' is 101 and 'E' is 69
unfoldable pub stop_of : ℕ → ℕ → ℕ → ℕ → Option Gathered
stop_of b v z i = cond (eqb b 46) (at_point v z i) (cond (eqb b 101 || eqb b 69) (at_end v z i) None)

unfoldable pub gather_of : ℕ → ℕ → ℕ → List ℕ → Option Gathered
gather_of v z i [] = at_end v z i
gather_of v z i (b ∷ s) =
    cond (is_digit b)
    (cond (ltb v full) (gather_of (v * 10 + (b - 48)) z (i + 1) s) (cond (eqb b 48) (gather_of v (z + 1) (i + 1) s) None))
    (stop_of b v z i)

-- ---- A mantissa without its trailing zeros, how many those were, how many digits stand behind the point, and its length
abbrev pub worth_of : ℕ → ℕ → ℕ → ℕ → Option Mantissa
worth_of v z f e = Some (record { v = v; zeros = z; behind = f; stop = e })

unfoldable pub mantissa_of : List ℕ → Option Mantissa
mantissa_of m =
    cond (is_mantissa m && ltb (strip_from (value_of (digits m)) 0).v large)
    (worth_of (strip_from (value_of (digits m)) 0).v (strip_from (value_of (digits m)) 0).zeros (length (fraction m)) (length m))
    None

-- the same of n digits that were gathered
unfoldable pub bare_of : ℕ → ℕ → ℕ → ℕ → ℕ → Option Mantissa
bare_of n v z f e = cond (eqb n 0) None (worth_of (strip_from v z).v (strip_from v z).zeros f e)

-- its counts are small
unfoldable pub Fit : Option Mantissa → Type 0
Fit (Some m) = (m.zeros < 2 ^ 62) × (m.behind ≤ 32)
Fit None = Unit

-- ---- An exponent counted from 200 on: 200 is 0, 199 is -1
unfoldable pub biased : Bool → ℕ → ℕ
biased negative n = cond negative (200 - n) (200 + n)

unfoldable pub power_of : List ℕ → Option ℕ
power_of [] = Some 200
power_of (e ∷ t) =
    cond (leb 1 (length (unsigned t)) && leb (length (unsigned t)) 2 && all_digits (unsigned t))
    (Some (biased (is_minus t) (value_of (unsigned t))))
    None

-- ---- A sign, a mantissa and an exponent counted from 200 on, as a decimal
unfoldable pub pair_of : Bool → ℕ → ℕ → Option Decimal
pair_of negative v s =
    cond (eqb v 0) (Some (record { mantissa = pos 0; exponent = pos 0 }))
    (cond (leb 101 s && leb s 299) (Some (record { mantissa = signed_of negative v; exponent = sub_ℕ s 200 })) None)

-- the same of a number of which f digits stand behind the point, with no exponent
unfoldable pub pointed_of : Bool → ℕ → ℕ → Option Decimal
pointed_of negative v f = pair_of negative (strip_from v 0).v (200 + (strip_from v 0).zeros - f)

unfoldable pub joined : Bool → Option Mantissa → Option ℕ → Option Decimal
joined negative (Some m) (Some x) = pair_of negative m.v (x + m.zeros - m.behind)
joined negative (Some m) None = None
joined negative None x = None

unfoldable pub body_of : Bool → List ℕ → Option Decimal
body_of negative b = joined negative (mantissa_of (mantissa_part b)) (power_of (exponent_part b))
