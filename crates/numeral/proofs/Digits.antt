-- Laws of digits and signs. Assumes nothing.
use Prim.Native.Nat.{ℕ, suc, ◌+◌, ◌*◌, ◌-◌, ◌^◌, ◌<◌, ◌≤◌}
use native.Mathlib.Nat.{mul-one, mul_assoc, pow-succ', lt_of_lt_of_le, mul-le-mul_right}
use mathlib.Core.List.{List, [], ◌∷◌, ◌++◌}
use mathlib.Core.Bool.{Bool, true, false, cond, ◌&&◌, ◌||◌, and_assoc}
use mathlib.Core.Path.{◌≡◌, refl, ap, ◌∙◌, sym}
use native.Mathlib.Numerals.{add-one}
use native.Mathlib.Omega.{arith}
use lib.ListN.{length, get_or, drop}
use lib.Seq.{drop-cons}
use lib.Dec.{leb, eqb}
use borrow.Author.Tests.{le-leb, lt-leb, leb-true, eq-eqb, ne_eqb}
use Rattle.numeral.specs.Digits.{is_digit, all_digits, value_from, is_minus, sign_len}
use Rattle.text.proofs.Cases.{and_both}

-- ---- the tests of the code, as the value of is_digit
pub digit-yes : (b : ℕ) → 48 ≤ b → b ≤ 57 → is_digit b ≡ true
unfolding is_digit
digit-yes b p q = simp (le-leb 48 b p, le-leb b 57 q)

pub digit_low : (b : ℕ) → b < 48 → is_digit b ≡ false
unfolding is_digit
digit_low b p = simp (lt-leb 48 b p)

pub digit-high : (b : ℕ) → 57 < b → is_digit b ≡ false
unfolding is_digit
digit-high b p = simp (lt-leb b 57 p, le-leb 48 b (omega arith))

-- a digit is at least 0, and at most 9
pub digit-least : (b : ℕ) → is_digit b ≡ true → 48 ≤ b
unfolding is_digit
digit-least b e = leb-true 48 b (and_both (leb 48 b) (leb b 57) e).0

pub digit-most : (b : ℕ) → is_digit b ≡ true → b ≤ 57
unfolding is_digit
digit-most b e = leb-true b 57 (and_both (leb 48 b) (leb b 57) e).1

-- ---- one turn of a loop at i
pub all_digits-at : (s : List ℕ) (i : ℕ) → i < length s → all_digits (drop i s) ≡ is_digit (get_or s i 0) && all_digits (drop (i + 1) s)
unfolding all_digits
all_digits-at s i h = rw (add-one, drop-cons s i 0)

pub value_from-at : (v : ℕ) (s : List ℕ) (i : ℕ) → i < length s → value_from v (drop i s) ≡ value_from (v * 10 + (get_or s i 0 - 48)) (drop (i + 1) s)
unfolding value_from
value_from-at v s i h = rw (add-one, drop-cons s i 0)

-- so many digits are worth less than ten to their number
pub value_from-below : (s : List ℕ) (v : ℕ) → all_digits s ≡ true → value_from v s < (v + 1) * 10 ^ length s
unfolding all_digits value_from
value_from-below [] v a = rw mul-one (omega arith)
value_from-below (b ∷ s) v a =
    let t = and_both (is_digit b) (all_digits s) a in
    let p : 48 ≤ b = digit-least b t.0 in
    let q : b ≤ 57 = digit-most b t.0 in
    let h : v * 10 + (b - 48) + 1 ≤ (v + 1) * 10 = omega arith in
    let e : (v + 1) * 10 ^ suc (length s) ≡ (v + 1) * 10 * 10 ^ length s = rw (pow-succ' 10 (length s), ← (mul_assoc (v + 1) 10 (10 ^ length s))) in
    rw e (lt_of_lt_of_le (value_from-below s (v * 10 + (b - 48)) t.1) (mul-le-mul_right (10 ^ length s) h))

-- ---- two texts, one behind the other
pub all_digits-append : (s t : List ℕ) → all_digits (s ++ t) ≡ all_digits s && all_digits t
unfolding all_digits
all_digits-append [] t = refl
all_digits-append (b ∷ s) t = ap (λ (x : Bool). is_digit b && x) (all_digits-append s t) ∙ sym (and_assoc (is_digit b) (all_digits s) (all_digits t))

pub value_from-append : (s t : List ℕ) (v : ℕ) → value_from v (s ++ t) ≡ value_from (value_from v s) t
unfolding value_from
value_from-append [] t v = refl
value_from-append (b ∷ s) t v = value_from-append s t (v * 10 + (b - 48))

-- a single digit
pub digit-of : (d : ℕ) → d < 10 → is_digit (48 + d) ≡ true
digit-of d h = digit-yes (48 + d) (omega arith) (omega arith)

pub all_digits-one : (d : ℕ) → d < 10 → all_digits ((48 + d) ∷ []) ≡ true
unfolding all_digits
all_digits-one d h = rw (digit-of d h)

pub value_from-one : (v d : ℕ) → value_from v ((48 + d) ∷ []) ≡ v * 10 + d
unfolding value_from
value_from-one v d = omega arith

-- ---- by the first byte
pub minus-none : (s : List ℕ) → length s ≡ 0 → false ≡ is_minus s
unfolding is_minus
minus-none [] e = refl
minus-none (b ∷ s) e = absurd (omega arith)

pub minus-some : (s : List ℕ) → 0 < length s → eqb (get_or s 0 0) 45 ≡ is_minus s
unfolding is_minus
minus-some [] h = absurd (omega arith)
minus-some (b ∷ s) h = refl

pub sign-none : (s : List ℕ) → length s ≡ 0 → 0 ≡ sign_len s
unfolding sign_len
sign-none [] e = refl
sign-none (b ∷ s) e = absurd (omega arith)

pub sign-minus : (s : List ℕ) → 0 < length s → get_or s 0 0 ≡ 45 → 1 ≡ sign_len s
unfolding sign_len
sign-minus [] h e = absurd (omega arith)
sign-minus (b ∷ s) h e = rw (eq-eqb b 45 e)

pub sign-plus : (s : List ℕ) → 0 < length s → (get_or s 0 0 ≡ 45 → ⊥) → get_or s 0 0 ≡ 43 → 1 ≡ sign_len s
unfolding sign_len
sign-plus [] h n e = absurd (omega arith)
sign-plus (b ∷ s) h n e = rw (ne_eqb b 45 n, eq-eqb b 43 e)

pub sign-other : (s : List ℕ) → (get_or s 0 0 ≡ 45 → ⊥) → (get_or s 0 0 ≡ 43 → ⊥) → 0 ≡ sign_len s
unfolding sign_len
sign-other [] n e = refl
sign-other (b ∷ s) n e = rw (ne_eqb b 45 n, ne_eqb b 43 e)

pub sign_le : (s : List ℕ) → sign_len s ≤ length s
unfolding sign_len
sign_le [] = omega arith
sign_le (b ∷ s) = go (eqb b 45 || eqb b 43)
  where
    go : (t : Bool) → cond t 1 0 ≤ length (b ∷ s)
    go true = omega arith
    go false = omega arith
