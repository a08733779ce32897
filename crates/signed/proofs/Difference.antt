-- Every integer is a difference of two naturals, `sub_ℕ a b`. A linear equation of ℤ is put into this form by `sub-add`, `sub-neg`,
-- `sub-pos` and `sub-negsuc`, and is then one of ℕ, which omega shows: `sub_same`, and back, `sub_inj`.
-- Assumes nothing.
use Prim.Native.Nat.{ℕ, zero, suc, ◌+◌, ◌-◌, ◌≤◌, ◌<◌}
use mathlib.Core.Path.{◌≡◌, refl, sym, ap, ap₂, ◌∙◌}
use mathlib.Core.Bool.{Bool, true, false}
use native.Mathlib.Omega.{arith}
use lib.Dec.{ltb}
use lib.IntN.{pos, negsuc, nat_abs, neg_ℤ, sub_ℕ, ◌+ℤ◌, pos-ne-negsuc}
use borrow.Author.Tests.{ltb-true, ltb-false, lt-ltb, le-ltb}

pub sub-above : (a b : ℕ) → b ≤ a → sub_ℕ a b ≡ pos (a - b)
sub-above a b h = rw (le-ltb a b h)

pub sub-below : (a b : ℕ) → a < b → sub_ℕ a b ≡ negsuc (b - suc a)
sub-below a b h = rw (lt-ltb a b h)

-- what holds where a ≥ b and where a < b
by_order {ℓ} : (P : Type ℓ) (a b : ℕ) → (b ≤ a → P) → (a < b → P) → P
by_order P a b f g = go (ltb a b) refl
  where
    go : (t : Bool) → ltb a b ≡ t → P
    go true e = g (ltb-true a b e)
    go false e = f (ltb-false a b e)

by-orders {ℓ} : (P : Type ℓ) (a b c d : ℕ) → (b ≤ a → d ≤ c → P) → (b ≤ a → c < d → P) → (a < b → d ≤ c → P) → (a < b → c < d → P) → P
by-orders P a b c d p q r s = by_order P a b (λ h. by_order P c d (p h) (q h)) (λ h. by_order P c d (r h) (s h))

pub sub_same : (a b c d : ℕ) → a + d ≡ c + b → sub_ℕ a b ≡ sub_ℕ c d
sub_same a b c d e = by_order _ a b
    (λ h. sub-above a b h ∙ ap pos (omega arith) ∙ sym (sub-above c d (omega arith)))
    (λ h. sub-below a b h ∙ ap negsuc (omega arith) ∙ sym (sub-below c d (omega arith)))

pub sub-pos : (n : ℕ) → pos n ≡ sub_ℕ n 0
sub-pos n = sym (sub-above n 0 (omega arith) ∙ ap pos (omega arith))

pub sub-negsuc : (n : ℕ) → negsuc n ≡ sub_ℕ 0 (suc n)
sub-negsuc n = sym (sub-below 0 (suc n) (omega arith) ∙ ap negsuc (omega arith))

pub sub-neg-pos : (n : ℕ) → neg_ℤ (pos n) ≡ sub_ℕ 0 n
sub-neg-pos zero = refl
sub-neg-pos (suc n) = sub-negsuc n

pub sub-neg : (a b : ℕ) → neg_ℤ (sub_ℕ a b) ≡ sub_ℕ b a
sub-neg a b = by_order _ a b
    (λ h. ap neg_ℤ (sub-above a b h) ∙ sub-neg-pos (a - b) ∙ sub_same 0 (a - b) b a (omega arith))
    (λ h. ap neg_ℤ (sub-below a b h) ∙ sub-pos (suc (b - suc a)) ∙ sub_same (suc (b - suc a)) 0 b a (omega arith))

pub sub-add : (a b c d : ℕ) → sub_ℕ a b +ℤ sub_ℕ c d ≡ sub_ℕ (a + c) (b + d)
sub-add a b c d = by-orders _ a b c d
    (λ h k. ap₂ ◌+ℤ◌ (sub-above a b h) (sub-above c d k) ∙ sub-pos (a - b + (c - d)) ∙ sub_same (a - b + (c - d)) 0 (a + c) (b + d) (omega arith))
    (λ h k. ap₂ ◌+ℤ◌ (sub-above a b h) (sub-below c d k) ∙ sub_same (a - b) (suc (d - suc c)) (a + c) (b + d) (omega arith))
    (λ h k. ap₂ ◌+ℤ◌ (sub-below a b h) (sub-above c d k) ∙ sub_same (c - d) (suc (b - suc a)) (a + c) (b + d) (omega arith))
    (λ h k. ap₂ ◌+ℤ◌ (sub-below a b h) (sub-below c d k) ∙ sub-negsuc (suc (b - suc a + (d - suc c))) ∙ sub_same 0 (suc (suc (b - suc a + (d - suc c)))) (a + c) (b + d) (omega arith))

-- one of the two differences is 0
pub sub-abs : (a b : ℕ) → nat_abs (sub_ℕ a b) ≡ (a - b) + (b - a)
sub-abs a b = by_order _ a b (λ h. ap nat_abs (sub-above a b h) ∙ omega arith) (λ h. ap nat_abs (sub-below a b h) ∙ omega arith)

pub sub_inj : (a b c d : ℕ) → sub_ℕ a b ≡ sub_ℕ c d → a + d ≡ c + b
sub_inj a b c d e = by-orders _ a b c d
    (λ h k. omega (arith, sub-abs a b, sub-abs c d, ap nat_abs e))
    (λ h k. absurd (pos-ne-negsuc _ _ (sym (sub-above a b h) ∙ e ∙ sub-below c d k)))
    (λ h k. absurd (pos-ne-negsuc _ _ (sym (sub-above c d k) ∙ sym e ∙ sub-below a b h)))
    (λ h k. omega (arith, sub-abs a b, sub-abs c d, ap nat_abs e))

pub sub-is-pos : (a b n : ℕ) → sub_ℕ a b ≡ pos n → a ≡ n + b
sub-is-pos a b n e = omega (arith, sub_inj a b n 0 (e ∙ sub-pos n))
