-- A natural number printed plain is read as a decimal that is worth it. Assumes nothing.
use Rattle.std.proofs.Common.{Some}
use Prim.Native.Nat.{ℕ, ◌+◌, ◌^◌, ◌≤◌, ◌<◌}
use mathlib.Core.Bool.{true, false}
use mathlib.Core.List.{◌++◌, append-nil}
use mathlib.Core.Path.{◌≡◌, refl, ap, sym, ◌∙◌}
use mathlib.Core.Logic.{⊎_elim}
use native.Mathlib.Omega.{arith}
use native.Mathlib.Nat.{zero-add, add-zero}
use borrow.Author.Tests.{eq-eqb, ne_eqb, le-leb, lt-ltb}
use lib.IntN.{pos}
use lib.ListN.{length}
use Rattle.text.proofs.Cases.{eq-or-ne}
use Rattle.signed.specs.Signed.{is_negative, same_z}
use Rattle.signed.proofs.Sign.{size-signed, positive-signed}
use Rattle.numeral.specs.Digits.{is_minus, unsigned}
use Rattle.numeral.specs.Integer.{in_range}
use Rattle.decimals.specs.Decimal.{kept, strip_from, in_limits, decimal_of}
use Rattle.numeral.specs.Worth.{whole_at, whole_of}
use Rattle.numeral.proofs.Integer.{range-value}
use Rattle.decimals.proofs.Zeros.{strip-le, strip-worth, strip-fewer}
use Rattle.print.specs.Printed.{digits_of, number_text, signed_text, power_text}
use Rattle.print.proofs.Digits.{digits-within}
use Rattle.print.proofs.Parts.{number-minus, number-unsigned}
use Rattle.print.proofs.Back.{unsigned-form, kept_back}

pub natural-text : (n : ℕ) → signed_text (pos n) ≡ digits_of n
unfolding signed_text number_text is_negative
natural-text n = refl

-- ---- It is read; the exponent 0 behind its digits is not printed
module _ (n : ℕ) where
  digits-alone : number_text false n ++ power_text (pos 0) ≡ digits_of n
  unfolding number_text power_text same_z
  digits-alone = append-nil (digits_of n)

  natural-minus : is_minus (digits_of n) ≡ false
  natural-minus = ap is_minus (sym digits-alone) ∙ number-minus false n (power_text (pos 0))

  natural-unsigned : unsigned (digits_of n) ≡ digits_of n ++ power_text (pos 0)
  natural-unsigned = ap unsigned (sym digits-alone) ∙ number-unsigned false n (power_text (pos 0))

  natural-limits : n < 10 ^ 18 → in_limits (kept false n (pos 0)) ≡ true
  unfolding in_limits kept
  natural-limits h =
      ⊎_elim (λ (e : n ≡ 0). rw (eq-eqb n 0 e))
      (λ (e : n ≡ 0 → ⊥).
      let v = (strip_from n 0).v in
      let z = (strip_from n 0).zeros in
      let l = strip-le n 0 in
      let f = strip-fewer n 18 (omega arith) h in
      rw (ne_eqb n 0 e, size-signed false v, lt-ltb v (10 ^ 18) (omega arith)) (le-leb (0 + z) 99 (omega arith)))
      (eq-or-ne n 0)

  pub natural-back : n < 10 ^ 18 → decimal_of (digits_of n) ≡ Some (kept false n (pos 0))
  unfolding decimal_of
  natural-back h =
      let l : length (digits_of n) ≤ 18 = digits-within 17 n h in
      rw (le-leb (length (digits_of n)) 32 (omega arith), natural-minus, natural-unsigned, unsigned-form false n (pos 0) (omega arith), kept_back false n (pos 0), natural-limits h)

  -- ---- What is read is worth it
  pub natural-worth : (low high : ℕ) → low ≤ n → n ≤ high → whole_of (kept false n (pos 0)) 0 low high ≡ Some n
  unfolding whole_of kept whole_at
  natural-worth low high h k =
      ⊎_elim (λ (e : n ≡ 0). rw (eq-eqb n 0 e) (unfold is_negative in ap (in_range low high) (sym e) ∙ sym (range-value low high n h k)))
      (λ (e : n ≡ 0 → ⊥).
      let v = (strip_from n 0).v in
      rw (ne_eqb n 0 e, positive-signed v, size-signed false v, zero-add, add-zero, strip-worth n (omega arith))
      (sym (range-value low high n h k)))
      (eq-or-ne n 0)
