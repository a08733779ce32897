-- Decimals without an exponent: their parts, and what they are worth. Assumes nothing.
use Prim.Native.Nat.{ℕ, ◌≤◌, ◌<◌}
use mathlib.Core.List.{List, [], ◌∷◌, ◌++◌, append-nil}
use mathlib.Core.Bool.{Bool, true}
use mathlib.Core.Path.{◌≡◌, refl, ap, ◌∙◌, sym}
use native.Mathlib.Nat.{lt_of_le_of_lt}
use native.Mathlib.Omega.{arith}
use borrow.Author.Tests.{lt-ltb}
use lib.ListN.{length, drop_of_length-le}
use Rattle.numeral.specs.Digits.{is_digit, all_digits, value_of, is_minus, unsigned}
use Rattle.text.proofs.Cases.{and_both}
use Rattle.decimals.specs.Decimal.{up_to, fraction, digits, is_mantissa, mantissa_part, exponent_part, strip_from, decimal_of}
use Rattle.decimals.specs.Inside.{large, mantissa_of, power_of, pointed_of, joined, body_of}
use Rattle.decimals.proofs.Parts.{part-next, digit_not, fraction-none, digits-none, fraction-point, digits-point, digits-front, fraction-front}
use Rattle.decimals.proofs.Zeros.{strip-le}
use Rattle.decimals.proofs.Bodies.{decimal-is}
use Rattle.numeral.proofs.Digits.{digit-high}

-- ---- The parts of digits, and of digits with a point among them
part-digits : (d m : List ℕ) → all_digits d ≡ true → mantissa_part (d ++ m) ≡ d ++ mantissa_part m
unfolding all_digits
part-digits [] m e = refl
part-digits (x ∷ d) m e =
    let t = and_both (is_digit x) (all_digits d) e in
    part-next x (d ++ m) (digit_not x 101 t.0 (digit-high 101 (omega arith))) (digit_not x 69 t.0 (digit-high 69 (omega arith)))
    ∙ ap (λ (l : List ℕ). x ∷ l) (part-digits d m t.1)

part_none : mantissa_part [] ≡ []
unfolding mantissa_part up_to
part_none = refl

-- a text with no exponent: all of it is its mantissa, whose digits and fraction are these
pub record Parts (m d f : List ℕ) : Type 0 where
  pub part : mantissa_part m ≡ m
  pub digits : digits m ≡ d
  pub fraction : fraction m ≡ f

pub parts_whole : (d : List ℕ) → all_digits d ≡ true → Parts d d []
parts_whole d e =
    let n = append-nil d in
    record {
      part = ap mantissa_part (sym n) ∙ part-digits d [] e ∙ ap (λ (l : List ℕ). d ++ l) part_none ∙ n;
      digits = ap digits (sym n) ∙ digits-front d [] e ∙ ap (λ (l : List ℕ). d ++ l) digits-none ∙ n;
      fraction = ap fraction (sym n) ∙ fraction-front d [] e ∙ fraction-none;
    }

pub parts-point : (d f : List ℕ) → all_digits d ≡ true → all_digits f ≡ true → Parts (d ++ 46 ∷ f) (d ++ f) f
parts-point d f e g =
    record {
      part = part-digits d (46 ∷ f) e
          ∙ ap (λ (l : List ℕ). d ++ l) (part-next 46 f (λ (q : 46 ≡ 101). omega arith) (λ (q : 46 ≡ 69). omega arith) ∙ ap (λ (l : List ℕ). 46 ∷ l) (parts_whole f g).part);
      digits = digits-front d (46 ∷ f) e ∙ ap (λ (l : List ℕ). d ++ l) (digits-point f);
      fraction = fraction-front d (46 ∷ f) e ∙ fraction-point f;
    }

-- ---- What such a field is worth
body-pointed : (negative : Bool) (m : List ℕ) → mantissa_part m ≡ m → is_mantissa m ≡ true → value_of (digits m) < large
    → pointed_of negative (value_of (digits m)) (length (fraction m)) ≡ body_of negative m
unfolding pointed_of body_of mantissa_of joined exponent_part power_of
body-pointed negative m p i h =
    let l : length m ≤ length m = omega arith in
    rw (p, drop_of_length-le m l, i, lt-ltb (strip_from (value_of (digits m)) 0).v large (lt_of_le_of_lt (strip-le (value_of (digits m)) 0) h))

pub decimal-pointed : (s : List ℕ) → length s ≤ 32 → mantissa_part (unsigned s) ≡ unsigned s → is_mantissa (unsigned s) ≡ true → value_of (digits (unsigned s)) < large
    → pointed_of (is_minus s) (value_of (digits (unsigned s))) (length (fraction (unsigned s))) ≡ decimal_of s
decimal-pointed s h p i v = body-pointed (is_minus s) (unsigned s) p i v ∙ decimal-is s h
