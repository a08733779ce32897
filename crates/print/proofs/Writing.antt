-- What the writers leave: one law for each of their returns. l is the output as it came, l₁ and l₂ what the calls left. Assumes nothing.
use Prim.Native.Nat.{ℕ, ◌+◌, ◌/◌, ◌%◌, ◌<◌, ◌≤◌}
use mathlib.Core.Bool.{Bool, true, false}
use mathlib.Core.List.{List, [], ◌∷◌, ◌++◌, append-nil}
use mathlib.Core.Path.{◌≡◌, refl, ap, ◌∙◌, sym}
use native.Mathlib.Omega.{arith}
use borrow.Author.Tests.{eq-eqb, ne_eqb}
use lib.IntN.{ℤ, pos, negsuc, nat_abs, ◌+ℤ◌}
use lib.Dec.{lit<}
use mir.Syntax.{w64}
use mir.Val.{SFits, of_z}
use Rattle.signed.proofs.Machine.{bits-inj}
use Rattle.output.specs.Over.{Put}
use Rattle.output.proofs.Over.{put_then}
use Rattle.signed.specs.Signed.{is_negative, same_z, signed_of}
use Rattle.signed.proofs.Sign.{same_z-true, same_z-refl, size-signed, negative-signed, positive-signed}
use Rattle.decimals.specs.Decimal.{kept, strip_from}
use Rattle.numeral.specs.declared.Decimal.{Decimal}
use Rattle.decimals.specs.declared.Stripped.{Stripped}
use Rattle.decimals.proofs.Zeros.{strip-some}
use Rattle.print.specs.Printed.{digits_in, digits_of, number_text, signed_text, power_text, decimal_text, sample_text}
use Rattle.print.proofs.Digits.{digits-one, digits_more}

-- ---- put_integer
pub wrote_one : {l l' : List ℕ} {at r : ℕ} (n : ℕ) → n < 10 → Put l at ((48 + n) ∷ []) r l' → Put l at (digits_of n) r l'
wrote_one n h p = rw (digits-one n h) p

pub wrote-more : {l l₁ l₂ : List ℕ} {at r₁ r₂ : ℕ} (n : ℕ) → 10 ≤ n → Put l at (digits_of (n / 10)) r₁ l₁ → Put l₁ r₁ ((48 + n % 10) ∷ []) r₂ l₂
    → Put l at (digits_of n) r₂ l₂
wrote-more n h p q = rw (digits_more n h) (put_then p q)

-- ---- put_number
pub wrote-minus : {l l₁ l₂ : List ℕ} {at r₁ r₂ : ℕ} (negative : Bool) (n : ℕ) → negative ≡ true → Put l at (45 ∷ []) r₁ l₁ → Put l₁ r₁ (digits_of n) r₂ l₂
    → Put l at (number_text negative n) r₂ l₂
unfolding number_text
wrote-minus negative n e p q = rw e (put_then p q)

pub wrote-plain : {l l₁ : List ℕ} {at r₁ : ℕ} (negative : Bool) (n : ℕ) → negative ≡ false → Put l at (digits_of n) r₁ l₁ → Put l at (number_text negative n) r₁ l₁
unfolding number_text
wrote-plain negative n e p = rw e p

-- ---- put_signed
pub wrote-signed : {l l₁ : List ℕ} {at r : ℕ} (z : ℤ) (negative : Bool) (n : ℕ) → negative ≡ is_negative z → n ≡ nat_abs z
    → Put l at (number_text negative n) r l₁ → Put l at (signed_text z) r l₁
unfolding signed_text
wrote-signed z negative n e f p = rw (← e, ← f) p

-- ---- put_scaled
-- an exponent is 0 if its bits are
module _ (e : ℤ) (f : SFits w64 e) where
  pub zero-yes : of_z w64 e ≡ 0 → same_z e (pos 0) ≡ true
  zero-yes h = let p : e ≡ pos 0 = bits-inj f (record { sfits = lit< tt }) h in rw p (same_z-refl (pos 0))

  pub zero-no : (of_z w64 e ≡ 0 → ⊥) → same_z e (pos 0) ≡ false
  zero-no n = go (same_z e (pos 0)) refl
    where
      go : (b : Bool) → same_z e (pos 0) ≡ b → same_z e (pos 0) ≡ false
      go true q = absurd (n (ap (of_z w64) (same_z-true e (pos 0) q)))
      go false q = q

pub wrote-whole : {l l₁ : List ℕ} {at r : ℕ} (t : List ℕ) (e : ℤ) → same_z e (pos 0) ≡ true → Put l at t r l₁ → Put l at (t ++ power_text e) r l₁
unfolding power_text
wrote-whole t e h p = rw (h, append-nil t) p

pub wrote-power : {l l₁ l₂ l₃ : List ℕ} {at r₁ r₂ r₃ : ℕ} (t : List ℕ) (e : ℤ) → same_z e (pos 0) ≡ false
    → Put l at t r₁ l₁ → Put l₁ r₁ (101 ∷ []) r₂ l₂ → Put l₂ r₂ (signed_text e) r₃ l₃ → Put l at (t ++ power_text e) r₃ l₃
unfolding power_text
wrote-power t e h p q s = rw h (put_then p (put_then q s))

-- ---- put_decimal
pub wrote-decimal : {l l₁ : List ℕ} {at r : ℕ} (d : Decimal) (negative : Bool) (n : ℕ) (e : ℤ) → negative ≡ is_negative d.mantissa → n ≡ nat_abs d.mantissa
    → e ≡ d.exponent → Put l at (number_text negative n ++ power_text e) r l₁ → Put l at (decimal_text d) r l₁
unfolding decimal_text signed_text
wrote-decimal d negative n e p q f w = rw (← p, ← q, ← f) w

-- ---- put_sample
zero-text : decimal_text (record { mantissa = pos 0; exponent = pos 0 }) ≡ 48 ∷ []
unfolding decimal_text signed_text number_text power_text digits_of digits_in is_negative same_z
zero-text = refl

pub wrote_nothing : {l l₁ : List ℕ} {at r : ℕ} (z : ℤ) → nat_abs z ≡ 0 → Put l at (48 ∷ []) r l₁ → Put l at (sample_text z) r l₁
unfolding sample_text kept
wrote_nothing z e p = rw (eq-eqb (nat_abs z) 0 e, zero-text) p

pub sign_kept : (b : Bool) (n : ℕ) → 1 ≤ n → is_negative (signed_of b n) ≡ b
sign_kept true n h = negative-signed n h
sign_kept false n h = positive-signed n

pub wrote-sample : {l l₁ : List ℕ} {at r : ℕ} (z : ℤ) (n : ℕ) (negative : Bool) (t : Stripped) (e : ℤ) → n ≡ nat_abs z → (n ≡ 0 → ⊥) → negative ≡ is_negative z
    → t ≡ strip_from n 0 → e ≡ negsuc 11 +ℤ pos t.zeros → Put l at (number_text negative t.v ++ power_text e) r l₁ → Put l at (sample_text z) r l₁
unfolding sample_text kept
wrote-sample z n negative t e p h q s f w =
    let a : 1 ≤ (strip_from n 0).v = strip-some n 0 (omega arith) in
    rw (← p, ne_eqb n 0 h, ← q)
    (wrote-decimal (record { mantissa = signed_of negative (strip_from n 0).v; exponent = negsuc 11 +ℤ pos (strip_from n 0).zeros })
    negative t.v e
    (sym (sign_kept negative (strip_from n 0).v a))
    (ap (λ (x : Stripped). x.v) s ∙ sym (size-signed negative (strip_from n 0).v))
    (f ∙ ap (λ (x : Stripped). negsuc 11 +ℤ pos x.zeros) s)
    w)
