-- A printed number is a plain line; so one that is read as a decimal holds it, as a printed sample does. Assumes nothing.
use Rattle.std.proofs.Common.{None, Some}
use Prim.Native.Nat.{ℕ, ◌*◌, ◌^◌, ◌≤◌, ◌<◌}
use mathlib.Core.Bool.{Bool, true, false}
use mathlib.Core.List.{List, [], ◌∷◌, ◌++◌}
use mathlib.Core.Path.{◌≡◌, refl, ◌∙◌}
use mathlib.Core.Logic.{⊎_elim}
use native.Mathlib.Omega.{arith}
use borrow.Author.Tests.{ne_eqb}
use lib.IntN.{ℤ, nat_abs}
use lib.ListN.{length}
use Rattle.text.specs.Marks.{is_blank, mark_of}
use Rattle.text.specs.declared.Mark.TheVariants.{Plain}
use Rattle.text.proofs.Cases.{and_both, lt-or-ge}
use Rattle.fields.proofs.Fields.{Word}
use Rattle.fields.proofs.Visible.{all_visible}
use Rattle.signed.specs.Signed.{is_negative}
use Rattle.numeral.specs.Digits.{is_digit, all_digits}
use Rattle.decimals.specs.Decimal.{decimal_of}
use Rattle.numeral.specs.declared.Decimal.{Decimal}
use Rattle.numeral.proofs.Digits.{digit-least, digit-most}
use Rattle.decimals.proofs.Bodies.{decimal-long}
use Rattle.print.specs.Printed.{digits_of, number_text, signed_text, power_text, decimal_text, sample_text}
use Rattle.print.proofs.Digits.{digits-all, digits-some}
use Rattle.print.proofs.Figures.{decimal-visible, sample-word}
use Rattle.print.proofs.Back.{sample_of, sample-back}
use Rattle.shape.proofs.Spelling.{word-item}
use Rattle.shape_text.proofs.Reread.{Holds}

-- ---- A printed number is no comment and no section line
digit-mark : (s t : List ℕ) → 1 ≤ length s → all_digits s ≡ true → mark_of (s ++ t) ≡ Plain
unfolding all_digits mark_of is_blank
digit-mark [] t l a = absurd (omega arith)
digit-mark (b ∷ s) t l a =
    let d = (and_both (is_digit b) (all_digits s) a).0 in
    let p = digit-least b d in
    let q = digit-most b d in
    rw (
      ne_eqb b 32 (λ (e : b ≡ 32). omega arith),
      ne_eqb b 9 (λ (e : b ≡ 9). omega arith),
      ne_eqb b 35 (λ (e : b ≡ 35). omega arith),
      ne_eqb b 91 (λ (e : b ≡ 91). omega arith),
    )

pub number-mark : (negative : Bool) (n : ℕ) (t : List ℕ) → mark_of (number_text negative n ++ t) ≡ Plain
number-mark true n t = unfold number_text mark_of is_blank in refl
number-mark false n t = unfold number_text in digit-mark (digits_of n) t (digits-some n) (digits-all n)

-- ---- One word that is a decimal
module _ (s : List ℕ) (d : Decimal) (e : decimal_of s ≡ Some d) where
  pub decimal-short : length s ≤ 32
  decimal-short =
      ⊎_elim (λ (l : 32 < length s).
      let f : None ≡ Some d = decimal-long s l ∙ e in
      absurd (let z : ◌≡◌ {A = ℕ} 0 1 = cc in omega arith))
      (λ (l : length s ≤ 32). l)
      (lt-or-ge 32 (length s))

  pub word_holds : Word s → all_visible s ≡ true → mark_of s ≡ Plain → Holds s d
  word_holds w v m = record { visible = v; item = word-item s d w decimal-short v m e }

-- ---- A sample
sample-visible : (z : ℤ) → all_visible (sample_text z) ≡ true
unfolding sample_text
sample-visible z = decimal-visible (sample_of z)

sample-mark : (z : ℤ) → mark_of (sample_text z) ≡ Plain
unfolding sample_text decimal_text signed_text
sample-mark z =
    let d = sample_of z in
    number-mark (is_negative d.mantissa) (nat_abs d.mantissa) (power_text d.exponent)

pub sample-holds : (z : ℤ) → nat_abs z ≤ 2 * 10 ^ 17 → Holds (sample_text z) (sample_of z)
sample-holds z h = word_holds (sample_text z) (sample_of z) (sample-back z h) (sample-word z) (sample-visible z) (sample-mark z)
