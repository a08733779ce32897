-- What is printed reads back as the same number, for each printer, on its whole range. Assumes nothing.
use Rattle.std.proofs.Common.{Some}
use Prim.Native.Nat.{ℕ, ◌+◌, ◌*◌, ◌%◌, ◌≤◌, ◌<◌, ◌^◌}
use mathlib.Core.Bool.{Bool, true, false, cond}
use mathlib.Core.List.{◌++◌}
use mathlib.Core.Path.{◌≡◌, ap, ◌∙◌, sym}
use mathlib.Core.Logic.{⊎_elim}
use native.Mathlib.Omega.{arith}
use native.Mathlib.Nat.{lt_of_le_of_lt}
use borrow.Author.Tests.{eq-eqb, ne_eqb, le-leb, lt-ltb}
use lib.IntN.{ℤ, pos, negsuc, nat_abs, sub_ℕ, ◌+ℤ◌, +ℤ_idr}
use lib.ListN.{length, drop, length-append}
use Rattle.signed.specs.Signed.{is_negative, signed_of}
use Rattle.signed.proofs.Difference.{sub_same, sub-pos, sub-add, sub-abs}
use Rattle.signed.proofs.Sign.{sign-size, size-signed, sign_zero}
use Rattle.numeral.specs.Digits.{is_minus, unsigned}
use Rattle.numeral.specs.Integer.{in_range, integer_of, signed_as, counter_of}
use Rattle.decimals.specs.Decimal.{strip_from, kept, in_limits, is_unsigned, kept_of, decimal_of}
use Rattle.numeral.specs.Worth.{round_at, rounded_of}
use Rattle.numeral.specs.declared.Decimal.{Decimal}
use Rattle.text.proofs.Cases.{eq-or-ne}
use Rattle.numeral.proofs.Integer.{integer-yes, integer-value, range-value}
use Rattle.numeral.specs.Kept.{Kept, Normal, nothing}
use Rattle.decimals.proofs.Kept.{kept-normal}
use Rattle.decimals.proofs.Zeros.{strip-done, strip-le, strip-some, strip-worth, strip-fewer}
use Rattle.print.specs.Printed.{digits_of, signed_text, power_text, decimal_text, sample_text}
use Rattle.print.proofs.Digits.{digits-all, digits-some, digits_value, digits-within}
use Rattle.print.proofs.Parts.{number-minus, number-unsigned, number-plain, signed-minus, fraction-none, digits_are, mantissa-yes, mantissa-cut, exponent-cut, power-form, power-worth, number-length, power-length}
use Rattle.print.proofs.Writing.{sign_kept}

-- ---- Integers
pub integer-back : (low high n : ℕ) → n < 10 ^ 10 → low ≤ n → n ≤ high → integer_of low high (digits_of n) ≡ Some n
integer-back low high n h l m =
    sym (integer-value low high (digits_of n) (integer-yes (digits_of n) (digits-some n) (digits-within 9 n h) (digits-all n)))
    ∙ ap (in_range low high) (digits_value n)
    ∙ sym (range-value low high n l m)

-- ---- Signed integers
signed-plain : (z : ℤ) → drop (cond (is_negative z) 1 0) (signed_text z) ≡ digits_of (nat_abs z)
unfolding signed_text
signed-plain z = number-plain (is_negative z) (nat_abs z)

pub counter-back : (most : ℕ) (z : ℤ) → nat_abs z < 10 ^ 10 → nat_abs z ≤ most → counter_of most (signed_text z) ≡ Some z
unfolding counter_of signed_as
counter-back most z h m =
    rw (signed-minus z, signed-plain z, integer-back 0 most (nat_abs z) h (omega arith) m, sign-size z)

-- ---- Decimals
module _ (negative : Bool) (n : ℕ) (e : ℤ) where
  pub unsigned-form : nat_abs e ≤ 99 → is_unsigned (digits_of n ++ power_text e) ≡ true
  unfolding is_unsigned
  unsigned-form h = rw (mantissa-cut n e, exponent-cut n e, mantissa-yes (digits_of n) (digits-all n) (digits-some n)) (power-form e h)

  pub kept_back : kept_of negative (digits_of n ++ power_text e) ≡ kept negative n e
  unfolding kept_of
  kept_back =
      rw (mantissa-cut n e, exponent-cut n e, power-worth e, digits_are (digits_of n) (digits-all n), fraction-none (digits_of n) (digits-all n), digits_value n, +ℤ_idr e)

-- a pair in normal form is what is kept of it
normal-kept : (d : Decimal) → Normal d → kept (is_negative d.mantissa) (nat_abs d.mantissa) d.exponent ≡ d
unfolding kept
normal-kept d n =
    ⊎_elim (λ (z : d ≡ nothing). rw z)
    (λ (h : nat_abs d.mantissa % 10 ≡ 0 → ⊥).
    let s = strip-done (nat_abs d.mantissa) 0 h in
    let z : nat_abs d.mantissa ≡ 0 → ⊥ = λ (e : nat_abs d.mantissa ≡ 0). h (rw e) in
    rw (ne_eqb (nat_abs d.mantissa) 0 z, s, sign-size d.mantissa, +ℤ_idr d.exponent))
    n

limits-kept : (d : Decimal) → Kept d → in_limits d ≡ true
unfolding in_limits
limits-kept d k = rw (lt-ltb _ _ k.digits, le-leb _ _ k.power)

text-length : (d : Decimal) → Kept d → length (decimal_text d) ≤ 32
unfolding decimal_text signed_text
text-length d k =
    rw length-append
    (omega (arith, number-length (is_negative d.mantissa) (nat_abs d.mantissa), digits-within 17 (nat_abs d.mantissa) k.digits, power-length d.exponent k.power))

text-minus : (d : Decimal) → is_minus (decimal_text d) ≡ is_negative d.mantissa
unfolding decimal_text signed_text
text-minus d = number-minus (is_negative d.mantissa) (nat_abs d.mantissa) (power_text d.exponent)

text-unsigned : (d : Decimal) → unsigned (decimal_text d) ≡ digits_of (nat_abs d.mantissa) ++ power_text d.exponent
unfolding decimal_text signed_text
text-unsigned d = number-unsigned (is_negative d.mantissa) (nat_abs d.mantissa) (power_text d.exponent)

pub decimal-back : (d : Decimal) → Kept d → decimal_of (decimal_text d) ≡ Some d
unfolding decimal_of
decimal-back d k =
    let s = is_negative d.mantissa in
    let n = nat_abs d.mantissa in
    let e = d.exponent in
    let b : kept_of s (digits_of n ++ power_text e) ≡ d = kept_back s n e ∙ normal-kept d k.normal in
    rw (le-leb (length (decimal_text d)) 32 (text-length d k), text-minus d, text-unsigned d, unsigned-form s n e k.power, b, limits-kept d k)

-- ---- Samples, in steps of 10^-12
abbrev pub sample_of : ℤ → Decimal
sample_of z = kept (is_negative z) (nat_abs z) (negsuc 11)

-- the exponent of a sample with so many trailing zeros, and that of its steps
power_size : (k : ℕ) → k < 18 → nat_abs (negsuc 11 +ℤ pos k) ≤ 99
power_size k h = omega (arith, sub-abs k 12)

power-steps : (k : ℕ) → negsuc 11 +ℤ pos k +ℤ pos 12 ≡ pos k
power-steps k =
    ap (λ (x : ℤ). sub_ℕ k 12 +ℤ x) (sub-pos 12) ∙ sub-add k 12 12 0 ∙ sub_same (k + 12) (12 + 0) k 0 (omega arith) ∙ sym (sub-pos k)

module _ (z : ℤ) (m : nat_abs z ≤ 2 * 10 ^ 17) where
  sample-digits : nat_abs (sample_of z).mantissa < 10 ^ 18
  unfolding kept
  sample-digits =
      ⊎_elim (λ (e : nat_abs z ≡ 0). rw (eq-eqb (nat_abs z) 0 e) (omega arith))
      (λ (e : nat_abs z ≡ 0 → ⊥).
      rw (ne_eqb (nat_abs z) 0 e, size-signed (is_negative z) (strip_from (nat_abs z) 0).v) (lt_of_le_of_lt (strip-le (nat_abs z) 0) (omega arith)))
      (eq-or-ne (nat_abs z) 0)

  sample-power : nat_abs (sample_of z).exponent ≤ 99
  unfolding kept
  sample-power =
      ⊎_elim (λ (e : nat_abs z ≡ 0). rw (eq-eqb (nat_abs z) 0 e) (omega arith))
      (λ (e : nat_abs z ≡ 0 → ⊥).
      rw (ne_eqb (nat_abs z) 0 e) (power_size (strip_from (nat_abs z) 0).zeros (strip-fewer (nat_abs z) 18 (omega arith) (omega arith))))
      (eq-or-ne (nat_abs z) 0)

  pub sample-kept : Kept (sample_of z)
  sample-kept = record { digits = sample-digits; power = sample-power; normal = kept-normal (is_negative z) (nat_abs z) (negsuc 11) }

  -- what is printed is read as the sample's decimal
  pub sample-back : decimal_of (sample_text z) ≡ Some (sample_of z)
  unfolding sample_text
  sample-back = decimal-back (sample_of z) sample-kept

  steps-nothing : nat_abs z ≡ 0 → rounded_of (sample_of z) ≡ Some z
  unfolding rounded_of kept round_at in_range signed_as is_negative
  steps-nothing e = rw (eq-eqb (nat_abs z) 0 e) (ap Some (sign_zero false ∙ sym (sign_zero (is_negative z)) ∙ ap (signed_of (is_negative z)) (sym e) ∙ sign-size z))

  steps-some : (nat_abs z ≡ 0 → ⊥) → rounded_of (sample_of z) ≡ Some z
  unfolding rounded_of kept round_at signed_as
  steps-some e =
      let v = (strip_from (nat_abs z) 0).v in
      rw (
        ne_eqb (nat_abs z) 0 e,
        sign_kept (is_negative z) v (strip-some (nat_abs z) 0 (omega arith)),
        size-signed (is_negative z) v,
        power-steps (strip_from (nat_abs z) 0).zeros,
        strip-worth (nat_abs z) (omega arith),
        ← (range-value 0 (2 * 10 ^ 17) (nat_abs z) (omega arith) m),
        sign-size z,
      )

  -- and that, rounded, is as many steps
  pub steps_back : rounded_of (sample_of z) ≡ Some z
  steps_back = ⊎_elim steps-nothing steps-some (eq-or-ne (nat_abs z) 0)
