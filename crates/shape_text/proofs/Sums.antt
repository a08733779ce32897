-- Differences sum up to the samples, and plain samples are the samples. Assumes nothing.
use Rattle.std.proofs.Common.{Some}
use Prim.Native.Nat.{◌*◌, ◌^◌, ◌≤◌}
use mathlib.Core.Bool.{true}
use mathlib.Core.List.{List, [], ◌∷◌, map}
use mathlib.Core.Path.{◌≡◌, refl, ap, ◌∙◌}
use native.Mathlib.Omega.{arith}
use lib.IntN.{ℤ, pos, nat_abs, ◌+ℤ◌, ◌-ℤ◌, +ℤ_comm, +ℤ_idl, -ℤ-+ℤ_cancel}
use Rattle.signed.proofs.Sign.{within-value, abs_diff}
use Rattle.print.proofs.Back.{sample_of, steps_back}
use Rattle.shape.specs.Samples.{sum_to, add_of}
use Rattle.expanding.specs.Expand.{Trace, done, next, then_sum, sums_of, plain_of, samples_in, ends_well}
use Rattle.shape_text.specs.Written.{differences_from}
use Rattle.shape_text.proofs.Longest.{AllIn, no_number, a-number}

-- ---- One after the other, up to the end
unfoldable pub traced : {A : Type 0} → List A → Trace A
traced [] = done
traced (x ∷ xs) = next x (traced xs)

pub traced-ends : (zs : List ℤ) → ends_well (traced zs) ≡ true
unfolding traced ends_well
traced-ends [] = refl
traced-ends (z ∷ zs) = traced-ends zs

pub traced-samples : (zs : List ℤ) → samples_in (traced zs) ≡ zs
unfolding traced samples_in
traced-samples [] = refl
traced-samples (z ∷ zs) = ap (λ (ys : List ℤ). z ∷ ys) (traced-samples zs)

-- ---- What is added to p to come to z
add-steps : (p d z : ℤ) → nat_abs d ≤ 2 * 10 ^ 17 → nat_abs z ≤ 10 ^ 17 → p +ℤ d ≡ z → add_of p (sample_of d) ≡ Some z
unfolding add_of sum_to
add-steps p d z h k e = rw (steps_back d h, e) (within-value (10 ^ 17) z k (omega arith))

add-difference : (p z : ℤ) → p +ℤ (z -ℤ p) ≡ z
add-difference p z = +ℤ_comm p (z -ℤ p) ∙ -ℤ-+ℤ_cancel z p

pub sums-back : {zs : List ℤ} (p : ℤ) → nat_abs p ≤ 10 ^ 17 → AllIn (10 ^ 17) zs → sums_of p (traced (map sample_of (differences_from p zs))) ≡ traced zs
unfolding differences_from traced sums_of then_sum
sums-back p h no_number = refl
sums-back p h (a-number z k a) = rw (add-steps p (z -ℤ p) z (omega (arith, abs_diff z p)) k (add-difference p z), sums-back z k a)

pub plain_back : {zs : List ℤ} → AllIn (10 ^ 17) zs → plain_of (map sample_of zs) ≡ traced zs
unfolding traced plain_of then_sum
plain_back no_number = refl
plain_back (a-number z h a) = rw (add-steps (pos 0) z z (omega arith) h (+ℤ_idl z), plain_back a)
