-- Samples within ±100,000: what `all` says of them, and how large they and their differences are. Assumes nothing.
use Prim.Native.Nat.{ℕ, zero, suc, ◌-◌, ◌≤◌, ◌<◌, ◌^◌}
use mathlib.Core.Bool.{true, ◌&&◌}
use mathlib.Core.List.{List, [], ◌∷◌}
use mathlib.Core.Path.{◌≡◌, refl, sym, ap₂, ◌∙◌}
use native.Mathlib.Omega.{arith}
use lib.Dec.{leb}
use lib.IntN.{ℤ, pos, nat_abs, ◌-ℤ◌, +ℤ_idr}
use Rattle.std.proofs.Common.{Option, Some}
use Rattle.std.specs.List.{list_all}
use lib.ListN.{length, get_or}
use borrow.Author.Tests.{leb-true}
use Rattle.text.proofs.Cases.{and_both}
use Rattle.signed.specs.Signed.{within}
use Rattle.signed.proofs.Sign.{abs_diff, within-value}
use Rattle.shape_text.specs.Written.{all_within, is_writable}
use Rattle.shape_text.specs.Inside.{step_at}

-- ---- all_within: what `all` says
pub all_list : (zs : List ℤ) → list_all (λ z. leb (nat_abs z) (10 ^ 17)) zs ≡ all_within zs
unfolding all_within
all_list [] = refl
all_list (z ∷ zs) = rw (all_list zs)

-- ---- is_writable
module _ (zs : List ℤ) where
  pub writable-within : is_writable zs ≡ true → all_within zs ≡ true
  unfolding is_writable
  writable-within e = (and_both (leb 1 (length zs) && leb (length zs) 1000000) (all_within zs) e).1

-- ---- step
pub within-at : (zs : List ℤ) (i : ℕ) → all_within zs ≡ true → i < length zs → nat_abs (get_or zs i (pos 0)) ≤ 10 ^ 17
unfolding all_within
within-at [] i e h = absurd (omega arith)
within-at (z ∷ zs) zero e h = leb-true (nat_abs z) (10 ^ 17) (and_both _ _ e).0
within-at (z ∷ zs) (suc i) e h = within-at zs i (and_both (leb (nat_abs z) (10 ^ 17)) (all_within zs) e).1 (omega arith)

pub step-first : (zs : List ℤ) (i : ℕ) → i ≡ 0 → get_or zs i (pos 0) ≡ step_at zs i
step-first zs i e = rw e (sym (+ℤ_idr (get_or zs 0 (pos 0))))

-- what `minus` answers here: a difference of two samples is within ±200,000
pub step-later : (zs : List ℤ) (i : ℕ) {r : Option ℤ} {a b : ℤ} → all_within zs ≡ true → i < length zs → (i ≡ 0 → ⊥)
    → a ≡ get_or zs i (pos 0) → b ≡ get_or zs (i - 1) (pos 0) → r ≡ within 200000000000000000 (a -ℤ b) → r ≡ Some (step_at zs i)
step-later zs zero w h n p q e = absurd (n refl)
step-later zs (suc i) w h n p q e =
    let m : suc i - 1 ≡ i = omega arith in
    let x = within-at zs (suc i) w h in
    let y = within-at zs i w (omega arith) in
    let k : nat_abs (step_at zs (suc i)) ≤ 200000000000000000 = omega (arith, abs_diff (get_or zs (suc i) (pos 0)) (get_or zs i (pos 0))) in
    e
    ∙ ap₂ (λ (x y : ℤ). within 200000000000000000 (x -ℤ y)) p (rw m at q)
    ∙ within-value 200000000000000000 (step_at zs (suc i)) k (omega arith)
