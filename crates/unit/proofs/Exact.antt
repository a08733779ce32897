-- Where times are exact. Sums and products of times within the paper's ranges are not capped, and a time that is given as whole
-- microseconds or as whole steps of a raster is that many, and every such time is given so. Assumes nothing.
use Rattle.std.proofs.Common.{None, Option, Some}
use Prim.Native.Nat.{ℕ, ◌+◌, ◌*◌, ◌/◌, ◌%◌, ◌^◌, ◌≤◌, ◌<◌, max}
use mathlib.Core.Path.{◌≡◌, refl, sym, ap, ◌∙◌}
use mathlib.Core.Bool.{Bool, true, false}
use native.Mathlib.Omega.{arith}
use native.Mathlib.Nat.{zero-add, le_refl, le_trans, mul-le-mul, mul-div_cancel, mul-mod_left, mod-add-div'}
use lib.Dec.{eqb}
use borrow.Author.Tests.{eqb-true, eqb-false, eq-eqb, ne_eqb}
use Rattle.unit.specs.declared.Micros.{Micros}
use Rattle.unit.specs.declared.RasterCount.{RasterCount}
use Rattle.unit.specs.Time.{longest, capped, in_micros, on_raster}

-- sums and products that are not capped

pub capped-exact : (n : ℕ) → n ≤ longest → capped n ≡ n
capped-exact n h = omega arith

pub product-exact : (a b p q : ℕ) → a ≤ p → b ≤ q → p * q ≤ longest → capped (a * b) ≡ a * b
product-exact a b p q h k l = capped-exact (a * b) (le_trans (mul-le-mul h k) l)

-- 10^9 us
pub micros-exact : (n : ℕ) → n ≤ 10 ^ 9 → capped (n * 1000) ≡ n * 1000
micros-exact n h = product-exact n 1000 (10 ^ 9) 1000 h (le_refl 1000) (omega arith)

-- 10^9 steps of a raster of 1 ms
pub count-exact : (c r : ℕ) → c ≤ 10 ^ 9 → r ≤ 10 ^ 6 → capped (c * r) ≡ c * r
count-exact c r h k = product-exact c r (10 ^ 9) (10 ^ 6) h k (omega arith)

-- 10^6 samples of 1 s each
pub dwell-exact : (c d : ℕ) → c ≤ 10 ^ 6 → d ≤ 10 ^ 9 → capped (c * d) ≡ c * d
dwell-exact c d h k = product-exact c d (10 ^ 6) (10 ^ 9) h k (omega arith)

-- sums compose
pub capped-plus : (a b : ℕ) → capped (capped a + capped b) ≡ capped (a + b)
capped-plus a b = omega arith

pub capped-longer : (a b : ℕ) → max (capped a) (capped b) ≡ capped (max a b)
capped-longer a b = omega arith

pub sum-exact : (a b c d : ℕ) → a ≤ 10 ^ 15 → b ≤ 10 ^ 15 → c ≤ 10 ^ 15 → d ≤ 10 ^ 15 → capped (capped (capped (a + b) + c) + d) ≡ a + b + c + d
sum-exact a b c d h k l m = omega arith

-- whole microseconds

pub micros-whole : (n m : ℕ) → in_micros n ≡ Some (record { 0 = m }) → n ≡ m * 1000
unfolding in_micros
micros-whole n m e = go (eqb (n % 1000) 0) refl
  where
    go : (t : Bool) → eqb (n % 1000) 0 ≡ t → n ≡ m * 1000
    go true f =
        let g : ◌≡◌ {A = (Option Micros)} (Some (record { 0 = n / 1000 })) (Some (record { 0 = m })) = rw f at e in
        let q : ◌≡◌ {A = Micros} (record { 0 = n / 1000 }) (record { 0 = m }) = cc in
        omega (arith, ap (λ (x : Micros). x.0) q, eqb-true (n % 1000) 0 f)
    go false f = let g : ◌≡◌ {A = (Option Micros)} None (Some (record { 0 = m })) = rw f at e in let z : ◌≡◌ {A = ℕ} 0 1 = cc in absurd (omega arith)

pub micros-back : (m : ℕ) → in_micros (m * 1000) ≡ Some (record { 0 = m })
unfolding in_micros
micros-back m = rw (eq-eqb (m * 1000 % 1000) 0 (omega arith)) (ap (λ (k : ℕ). Some (record { 0 = k })) (omega arith))

-- whole steps of a raster

pub steps-whole : (n r k : ℕ) → on_raster n r ≡ Some (record { 0 = k }) → (n ≡ k * r) × (0 < r)
unfolding on_raster
steps-whole n r k e = go (eqb r 0) refl (eqb (n % r) 0) refl
  where
    positive : (r ≡ 0 → ⊥) → 0 < r
    positive h = omega arith

    go : (t : Bool) → eqb r 0 ≡ t → (u : Bool) → eqb (n % r) 0 ≡ u → (n ≡ k * r) × (0 < r)
    go true f u g = let h : ◌≡◌ {A = (Option RasterCount)} None (Some (record { 0 = k })) = rw f at e in let z : ◌≡◌ {A = ℕ} 0 1 = cc in absurd (omega arith)
    go false f true g =
        let h : ◌≡◌ {A = (Option RasterCount)} (Some (record { 0 = n / r })) (Some (record { 0 = k })) = rw (f, g) at e in
        let q : ◌≡◌ {A = RasterCount} (record { 0 = n / r }) (record { 0 = k }) = cc in
        (sym (mod-add-div' n r) ∙ rw (eqb-true (n % r) 0 g, ap (λ (x : RasterCount). x.0) q, zero-add), positive (eqb-false r 0 f))
    go false f false g = let h : ◌≡◌ {A = (Option RasterCount)} None (Some (record { 0 = k })) = rw (f, g) at e in let z : ◌≡◌ {A = ℕ} 0 1 = cc in absurd (omega arith)

pub steps_back : (k r : ℕ) → 0 < r → on_raster (k * r) r ≡ Some (record { 0 = k })
unfolding on_raster
steps_back k r h = rw (ne_eqb r 0 (λ e. omega arith), eq-eqb (k * r % r) 0 (mul-mod_left k r)) (ap (λ (j : ℕ). Some (record { 0 = j })) (mul-div_cancel k h))
