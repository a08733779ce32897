-- What the reader cuts off a printed number: its sign, its digits, its exponent. Assumes nothing.
use Prim.Native.Nat.{ℕ, ◌+◌, ◌≤◌}
use mathlib.Core.Bool.{Bool, true, false, cond}
use mathlib.Core.List.{List, [], ◌∷◌, ◌++◌, append-nil}
use mathlib.Core.Path.{◌≡◌, refl, ap, ◌∙◌, sym}
use native.Mathlib.Omega.{arith}
use borrow.Author.Tests.{ne_eqb, le-leb}
use lib.IntN.{ℤ, pos, nat_abs}
use lib.ListN.{length, drop, drop_of_length-le}
use lib.Seq.{drop-append_seam}
use Rattle.signed.specs.Signed.{is_negative, same_z}
use Rattle.signed.proofs.Sign.{sign-size, same_z-true}
use Rattle.numeral.specs.Digits.{is_digit, all_digits, is_minus, sign_len, unsigned}
use Rattle.decimals.specs.Decimal.{up_to, whole, fraction, digits, is_mantissa, mantissa_part, exponent_part, is_exponent, exponent_of}
use Rattle.text.proofs.Cases.{and_both}
use Rattle.numeral.proofs.Digits.{digit-least}
use Rattle.print.specs.Printed.{digits_of, number_text, signed_text, power_text}
use Rattle.print.proofs.Digits.{digits-all, digits-some, digits_value, digits-within}

-- ---- Signs
-- digits have no sign in front
no_minus : (s t : List ℕ) → 1 ≤ length s → all_digits s ≡ true → is_minus (s ++ t) ≡ false
unfolding all_digits is_minus
no_minus [] t l a = absurd (omega arith)
no_minus (b ∷ s) t l a =
    let p = digit-least b (and_both (is_digit b) (all_digits s) a).0 in
    ne_eqb b 45 (λ (e : b ≡ 45). omega arith)

no_sign : (s t : List ℕ) → 1 ≤ length s → all_digits s ≡ true → sign_len (s ++ t) ≡ 0
unfolding all_digits sign_len
no_sign [] t l a = absurd (omega arith)
no_sign (b ∷ s) t l a =
    let p = digit-least b (and_both (is_digit b) (all_digits s) a).0 in
    rw (ne_eqb b 45 (λ (e : b ≡ 45). omega arith), ne_eqb b 43 (λ (e : b ≡ 43). omega arith))

pub number-minus : (negative : Bool) (n : ℕ) (t : List ℕ) → is_minus (number_text negative n ++ t) ≡ negative
number-minus true n t = unfold number_text is_minus in refl
number-minus false n t = unfold number_text in no_minus (digits_of n) t (digits-some n) (digits-all n)

pub number-unsigned : (negative : Bool) (n : ℕ) (t : List ℕ) → unsigned (number_text negative n ++ t) ≡ digits_of n ++ t
number-unsigned true n t = unfold number_text sign_len in refl
number-unsigned false n t = unfold number_text in rw (no_sign (digits_of n) t (digits-some n) (digits-all n))

pub number-plain : (negative : Bool) (n : ℕ) → drop (cond negative 1 0) (number_text negative n) ≡ digits_of n
unfolding number_text
number-plain true n = refl
number-plain false n = refl

-- a signed number alone
pub signed-minus : (z : ℤ) → is_minus (signed_text z) ≡ is_negative z
unfolding signed_text
signed-minus z = ap is_minus (sym (append-nil (number_text (is_negative z) (nat_abs z)))) ∙ number-minus (is_negative z) (nat_abs z) []

pub signed-unsigned : (z : ℤ) → unsigned (signed_text z) ≡ digits_of (nat_abs z)
unfolding signed_text
signed-unsigned z =
    ap unsigned (sym (append-nil (number_text (is_negative z) (nat_abs z)))) ∙ number-unsigned (is_negative z) (nat_abs z) [] ∙ append-nil (digits_of (nat_abs z))

-- ---- What stands before a byte that is no digit
up_to-digits : (a b : ℕ) → is_digit a ≡ false → is_digit b ≡ false → (s t : List ℕ) → all_digits s ≡ true → up_to a b (s ++ t) ≡ s ++ up_to a b t
unfolding up_to all_digits
up_to-digits a b f g [] t h = refl
up_to-digits a b f g (x ∷ s) t h =
    let d = and_both (is_digit x) (all_digits s) h in
    rw (ne_eqb x a (other a f), ne_eqb x b (other b g)) (ap (λ (l : List ℕ). x ∷ l) (up_to-digits a b f g s t d.1))
  where
    other : (c : ℕ) → is_digit c ≡ false → x ≡ c → ⊥
    other c k e =
        let d : is_digit x ≡ true = (and_both (is_digit x) (all_digits s) h).0 in
        let z : true ≡ false = sym d ∙ ap is_digit e ∙ k in
        absurd (let q : ◌≡◌ {A = ℕ} 0 1 = cc in omega arith)

-- ---- A mantissa that is digits alone
module _ (s : List ℕ) (a : all_digits s ≡ true) where
  whole-all : whole s ≡ s
  unfolding whole
  whole-all = ap (up_to 46 46) (sym (append-nil s)) ∙ up_to-digits 46 46 (unfold is_digit in refl) (unfold is_digit in refl) s [] a ∙ (unfold up_to in append-nil s)

  pub fraction-none : fraction s ≡ []
  unfolding fraction
  fraction-none = let h : length s ≤ length s + 1 = omega arith in rw whole-all (drop_of_length-le s h)

  pub digits_are : digits s ≡ s
  unfolding digits
  digits_are = rw (whole-all, fraction-none) (append-nil s)

  pub mantissa-yes : 1 ≤ length s → is_mantissa s ≡ true
  unfolding is_mantissa
  mantissa-yes l = rw (digits_are, a, le-leb 1 (length s) l)

-- ---- An exponent that was printed
power-ends : (e : ℤ) → up_to 101 69 (power_text e) ≡ []
unfolding power_text up_to
power-ends e = go (same_z e (pos 0))
  where
    go : (b : Bool) → up_to 101 69 (cond b [] (101 ∷ signed_text e)) ≡ []
    go true = refl
    go false = refl

module _ (n : ℕ) (e : ℤ) where
  pub mantissa-cut : mantissa_part (digits_of n ++ power_text e) ≡ digits_of n
  unfolding mantissa_part
  mantissa-cut =
      up_to-digits 101 69 (unfold is_digit in refl) (unfold is_digit in refl) (digits_of n) (power_text e) (digits-all n)
      ∙ ap (λ (t : List ℕ). digits_of n ++ t) (power-ends e)
      ∙ append-nil (digits_of n)

  pub exponent-cut : exponent_part (digits_of n ++ power_text e) ≡ power_text e
  unfolding exponent_part
  exponent-cut = rw mantissa-cut (drop-append_seam (digits_of n) (power_text e))

pub power-form : (e : ℤ) → nat_abs e ≤ 99 → is_exponent (power_text e) ≡ true
unfolding power_text
power-form e h = go (same_z e (pos 0))
  where
    short : length (digits_of (nat_abs e)) ≤ 2
    short = digits-within 1 (nat_abs e) (omega arith)

    go : (b : Bool) → is_exponent (cond b [] (101 ∷ signed_text e)) ≡ true
    go true = unfold is_exponent in refl
    go false =
        unfold is_exponent in
        rw (signed-unsigned e, le-leb 1 (length (digits_of (nat_abs e))) (digits-some (nat_abs e)), le-leb (length (digits_of (nat_abs e))) 2 short)
        (digits-all (nat_abs e))

pub power-worth : (e : ℤ) → exponent_of (power_text e) ≡ e
unfolding power_text
power-worth e = go (same_z e (pos 0)) refl
  where
    go : (b : Bool) → same_z e (pos 0) ≡ b → exponent_of (cond b [] (101 ∷ signed_text e)) ≡ e
    go true h = unfold exponent_of in sym (same_z-true e (pos 0) h)
    go false h = unfold exponent_of in rw (signed-minus e, signed-unsigned e, digits_value (nat_abs e)) (sign-size e)

-- ---- How long they are
pub number-length : (negative : Bool) (n : ℕ) → length (number_text negative n) ≤ 1 + length (digits_of n)
unfolding number_text
number-length true n = omega arith
number-length false n = omega arith

pub power-length : (e : ℤ) → nat_abs e ≤ 99 → length (power_text e) ≤ 4
unfolding power_text signed_text
power-length e h = go (same_z e (pos 0))
  where
    go : (b : Bool) → length (cond b [] (101 ∷ number_text (is_negative e) (nat_abs e))) ≤ 4
    go true = omega arith
    go false = omega (arith, number-length (is_negative e) (nat_abs e), digits-within 1 (nat_abs e) (omega arith))
