-- The laws of the definitions of specs/Signed.antt: a number is its sign before its size, `same_z` decides equality, and what
-- `within` gives where. Also the bounds of the size of a sum and of a difference, which omega reads.
-- Assumes nothing.
use Rattle.std.proofs.Common.{None, Option, Some}
use Prim.Native.Nat.{ℕ, zero, suc, ◌+◌, ◌^◌, ◌≤◌, ◌<◌, min}
use mathlib.Core.Path.{◌≡◌, refl, sym, ap, ◌∙◌}
use mathlib.Core.Bool.{Bool, true, false, cond}
use native.Mathlib.Omega.{arith}
use lib.Dec.{eqb, leb}
use lib.Signed.{mag}
use lib.IntN.{ℤ, pos, negsuc, nat_abs, neg_ℤ, sub_ℕ, ◌+ℤ◌, ◌-ℤ◌}
use mir.Syntax.{w64}
use mir.Val.{SFits, of_z}
use borrow.Author.Tests.{eqb-true, eq-eqb, ne_eqb, leb-true, le-leb, lt-leb}
use Rattle.signed.specs.Signed.{same_z, is_negative, largest, signed_of, within}
use Rattle.signed.proofs.Machine.{unfit-large, bits-inj}
use Rattle.signed.proofs.Difference.{sub-pos, sub-neg-pos, sub-abs}

-- a number is its sign before its size

pub sign-size : (z : ℤ) → signed_of (is_negative z) (nat_abs z) ≡ z
unfolding signed_of is_negative
sign-size (pos n) = refl
sign-size (negsuc n) = refl

pub size-signed : (s : Bool) (n : ℕ) → nat_abs (signed_of s n) ≡ n
unfolding signed_of
size-signed true zero = refl
size-signed true (suc n) = refl
size-signed false n = refl

pub sign_zero : (s : Bool) → signed_of s 0 ≡ pos 0
unfolding signed_of
sign_zero true = refl
sign_zero false = refl

-- as a difference: `sub_ℕ 0 n` with the sign `true`, `sub_ℕ n 0` with `false`
pub signed_sub : (s : Bool) (n : ℕ) → signed_of s n ≡ sub_ℕ (cond s 0 n) (cond s n 0)
unfolding signed_of
signed_sub true n = sub-neg-pos n
signed_sub false n = sub-pos n

pub negative-signed : (n : ℕ) → 0 < n → is_negative (signed_of true n) ≡ true
unfolding signed_of is_negative
negative-signed zero h = absurd (omega arith)
negative-signed (suc n) h = refl

pub positive-signed : (n : ℕ) → is_negative (signed_of false n) ≡ false
unfolding signed_of is_negative
positive-signed n = refl

-- equality

pub same_z-refl : (a : ℤ) → same_z a a ≡ true
unfolding same_z
same_z-refl (pos a) = eq-eqb a a refl
same_z-refl (negsuc a) = eq-eqb a a refl

pub same_z-true : (a b : ℤ) → same_z a b ≡ true → a ≡ b
unfolding same_z
same_z-true (pos a) (pos b) e = ap pos (eqb-true a b e)
same_z-true (pos a) (negsuc b) e = cc
same_z-true (negsuc a) (pos b) e = cc
same_z-true (negsuc a) (negsuc b) e = ap negsuc (eqb-true a b e)

pub same_z-false : (a b : ℤ) → same_z a b ≡ false → a ≡ b → ⊥
same_z-false a b e q = let z : ◌≡◌ {A = Bool} true false = sym (same_z-refl a) ∙ ap (same_z a) q ∙ e in let y : ◌≡◌ {A = ℕ} 0 1 = cc in omega arith

pub same_z-other : (a b : ℤ) → (a ≡ b → ⊥) → same_z a b ≡ false
same_z-other a b n = go (same_z a b) refl
  where
    go : (t : Bool) → same_z a b ≡ t → same_z a b ≡ false
    go true e = absurd (n (same_z-true a b e))
    go false e = e

-- the machine's test `a == b`, of two numbers and of a number and a literal
pub same_bits : (a b : ℤ) → mag a < 2 ^ 63 → mag b < 2 ^ 63 → eqb (of_z w64 a) (of_z w64 b) ≡ same_z a b
same_bits a b f g = go (same_z a b) refl
  where
    go : (t : Bool) → same_z a b ≡ t → eqb (of_z w64 a) (of_z w64 b) ≡ same_z a b
    go true e = eq-eqb _ _ (ap (of_z w64) (same_z-true a b e)) ∙ sym e
    go false e = ne_eqb _ _ (λ q. same_z-false a b e (bits-inj (record { sfits = f }) (record { sfits = g }) q)) ∙ sym e

pub same_number : (z : ℤ) (n : ℕ) → mag z < 2 ^ 63 → n < 2 ^ 63 → eqb (of_z w64 z) n ≡ same_z z (pos n)
same_number z n f g = same_bits z (pos n) f g

-- sums that are asked to stay within a size

module _ (most : ℕ) (z : ℤ) where
  pub within-value : nat_abs z ≤ most → nat_abs z ≤ largest → within most z ≡ Some z
  unfolding within
  within-value h k = rw (le-leb (nat_abs z) (min most largest) (omega arith))

  pub within-beyond : most < nat_abs z → within most z ≡ None
  unfolding within
  within-beyond h = rw (lt-leb (nat_abs z) (min most largest) (omega arith))

  pub within-inv : (y : ℤ) → within most z ≡ Some y → (y ≡ z) × (nat_abs z ≤ most)
  unfolding within
  within-inv y e = go (leb (nat_abs z) (min most largest)) refl
    where
      go : (t : Bool) → leb (nat_abs z) (min most largest) ≡ t → (y ≡ z) × (nat_abs z ≤ most)
      go true f = let g : ◌≡◌ {A = (Option ℤ)} (Some z) (Some y) = rw f at e in (cc, omega (arith, leb-true (nat_abs z) (min most largest) f))
      go false f = let g : ◌≡◌ {A = (Option ℤ)} None (Some y) = rw f at e in let n : ◌≡◌ {A = ℕ} 0 1 = cc in absurd (omega arith)

  -- what does not fit an i64 is beyond every size
  pub within-unfit : (SFits w64 z → ⊥) → within most z ≡ None
  unfolding within
  within-unfit h = let large = unfit-large z h in rw (lt-leb (nat_abs z) (min most largest) (omega arith))

-- the size of a sum and of a difference

pub abs_neg : (a : ℤ) → nat_abs (neg_ℤ a) ≡ nat_abs a
abs_neg (pos zero) = refl
abs_neg (pos (suc n)) = refl
abs_neg (negsuc n) = refl

pub abs-add : (a b : ℤ) → nat_abs (a +ℤ b) ≤ nat_abs a + nat_abs b
abs-add (pos a) (pos b) = omega arith
abs-add (pos a) (negsuc b) = omega (arith, sub-abs a (suc b))
abs-add (negsuc a) (pos b) = omega (arith, sub-abs b (suc a))
abs-add (negsuc a) (negsuc b) = omega arith

pub abs_diff : (a b : ℤ) → nat_abs (a -ℤ b) ≤ nat_abs a + nat_abs b
abs_diff a b = rw (← abs_neg b) (abs-add a (neg_ℤ b))
