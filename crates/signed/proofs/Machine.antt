-- An i64 as the machine holds it.
--     rd               what is read back from a local that holds z: in goals `to_z w64 (of_z w64 z)`
--     rd-is, rd-at     it is z, where z fits; `rd-at` has the number written out, for a path between records
--     sfits-abs        z fits where its size is below 2^63
--     unfit-large      and where it does not fit, its size is beyond the largest
--     bits-inj         numbers with the same bits are the same
--     below-zero       the machine's test `z < 0` is `is_negative`
--     size-most        the size of what an i64 holds
-- Assumes nothing.
use Prim.Native.Nat.{◌<◌, ◌≤◌, ◌^◌}
use mathlib.Core.Bool.{Bool, true, false}
use mathlib.Core.Path.{◌≡◌, refl, sym, ap, ◌∙◌}
use native.Mathlib.Omega.{arith}
use lib.Dec.{leb}
use lib.IntN.{ℤ, pos, negsuc, nat_abs}
use lib.Signed.{mag, lt_z}
use mir.Syntax.{w64}
use mir.Val.{SFits, to_z, of_z}
use mir.Facts.{to_z-of_z}
use borrow.Author.Tests.{le-ltb, leb-true, leb-false}
use Rattle.signed.specs.Signed.{is_negative, largest}

abbrev pub rd : ℤ → ℤ
rd z = to_z w64 (of_z w64 z)

pub rd-is : {z : ℤ} → SFits w64 z → rd z ≡ z
rd-is f = to_z-of_z f

pub rd-at : (z : ℤ) → mag z < 2 ^ 63 → rd z ≡ z
rd-at z h = to_z-of_z {w = w64} (record { sfits = h })

pub sfits-abs : (z : ℤ) → nat_abs z < 2 ^ 63 → SFits w64 z
sfits-abs (pos n) h = record { sfits = h }
sfits-abs (negsuc n) h = record { sfits = omega arith }

pub unfit-large : (z : ℤ) → (SFits w64 z → ⊥) → largest < nat_abs z
unfit-large z h = go (leb (nat_abs z) largest) refl
  where
    go : (t : Bool) → leb (nat_abs z) largest ≡ t → largest < nat_abs z
    go true e = absurd (h (sfits-abs z (omega (arith, leb-true (nat_abs z) largest e))))
    go false e = leb-false (nat_abs z) largest e

pub bits-inj : {a b : ℤ} → SFits w64 a → SFits w64 b → of_z w64 a ≡ of_z w64 b → a ≡ b
bits-inj f g e = sym (to_z-of_z f) ∙ ap (to_z w64) e ∙ to_z-of_z g

pub below-zero : {z : ℤ} → SFits w64 z → lt_z (rd z) (pos 0) ≡ is_negative z
unfolding is_negative
below-zero {z} f = ap (λ (y : ℤ). lt_z y (pos 0)) (rd-is f) ∙ tested z
  where
    tested : (z : ℤ) → lt_z z (pos 0) ≡ is_negative z
    tested (pos n) = le-ltb n 0 (omega arith)
    tested (negsuc n) = refl

pub size-most : (z : ℤ) → mag z < 2 ^ 63 → nat_abs z ≤ 2 ^ 63
size-most (pos n) h = omega arith
size-most (negsuc n) h = h
