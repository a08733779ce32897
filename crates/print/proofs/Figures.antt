-- A printed number is visible bytes, at least one: so it is one word, and stands in one line. Assumes nothing.
use Prim.Native.Nat.{ℕ, ◌≤◌}
use mathlib.Core.Bool.{Bool, true, false, cond}
use mathlib.Core.List.{List, [], ◌∷◌}
use mathlib.Core.Path.{◌≡◌, refl}
use native.Mathlib.Omega.{arith}
use lib.IntN.{ℤ, pos, nat_abs}
use lib.ListN.{length, length-append}
use Rattle.fields.proofs.Fields.{Word}
use Rattle.fields.proofs.Visible.{is_visible, all_visible, visible-yes, visible-append, visible-word}
use Rattle.signed.specs.Signed.{is_negative, same_z}
use Rattle.numeral.specs.Digits.{is_digit, all_digits}
use Rattle.numeral.specs.declared.Decimal.{Decimal}
use Rattle.text.proofs.Cases.{and_both}
use Rattle.numeral.proofs.Digits.{digit-least, digit-most}
use Rattle.print.specs.Printed.{digits_of, number_text, signed_text, power_text, decimal_text, sample_text}
use Rattle.print.proofs.Digits.{digits-all, digits-some}
use Rattle.print.proofs.Back.{sample_of}

-- ---- Visible
digits-seen : (s : List ℕ) → all_digits s ≡ true → all_visible s ≡ true
unfolding all_digits all_visible
digits-seen [] h = refl
digits-seen (b ∷ s) h =
    let a = and_both (is_digit b) (all_digits s) h in
    let l = digit-least b a.0 in
    let m = digit-most b a.0 in
    rw (visible-yes b (omega arith) (omega arith)) (digits-seen s a.1)

pub digits-visible : (n : ℕ) → all_visible (digits_of n) ≡ true
digits-visible n = digits-seen (digits_of n) (digits-all n)

number-visible : (negative : Bool) (n : ℕ) → all_visible (number_text negative n) ≡ true
unfolding number_text all_visible is_visible
number-visible true n = digits-visible n
number-visible false n = digits-visible n

pub signed-visible : (z : ℤ) → all_visible (signed_text z) ≡ true
unfolding signed_text
signed-visible z = number-visible (is_negative z) (nat_abs z)

power-visible : (e : ℤ) → all_visible (power_text e) ≡ true
unfolding power_text all_visible is_visible
power-visible e = go (same_z e (pos 0))
  where
    go : (b : Bool) → all_visible (cond b [] (101 ∷ signed_text e)) ≡ true
    go true = refl
    go false = signed-visible e

pub decimal-visible : (d : Decimal) → all_visible (decimal_text d) ≡ true
unfolding decimal_text
decimal-visible d = visible-append (signed_text d.mantissa) (power_text d.exponent) (signed-visible d.mantissa) (power-visible d.exponent)

-- ---- At least one byte
number-some : (negative : Bool) (n : ℕ) → 1 ≤ length (number_text negative n)
unfolding number_text
number-some true n = omega arith
number-some false n = digits-some n

pub signed-some : (z : ℤ) → 1 ≤ length (signed_text z)
unfolding signed_text
signed-some z = number-some (is_negative z) (nat_abs z)

pub decimal-some : (d : Decimal) → 1 ≤ length (decimal_text d)
unfolding decimal_text
decimal-some d = rw length-append (omega (arith, signed-some d.mantissa))

-- ---- One word
pub digits-word : (n : ℕ) → Word (digits_of n)
digits-word n = visible-word (digits_of n) (digits-some n) (digits-visible n)

pub signed_word : (z : ℤ) → Word (signed_text z)
signed_word z = visible-word (signed_text z) (signed-some z) (signed-visible z)

pub decimal-word : (d : Decimal) → Word (decimal_text d)
decimal-word d = visible-word (decimal_text d) (decimal-some d) (decimal-visible d)

pub sample-word : (z : ℤ) → Word (sample_text z)
unfolding sample_text
sample-word z = decimal-word (sample_of z)
