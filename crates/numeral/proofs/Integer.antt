-- Laws of integer fields and ranges: each outcome of the code's tests, and what a good field says. Assumes nothing.
use Rattle.std.proofs.Common.{None, Some}
use Prim.Native.Nat.{ℕ, ◌≤◌, ◌<◌, ◌+◌, ◌*◌, ◌^◌}
use mathlib.Core.List.{List}
use mathlib.Core.Bool.{Bool, true, false, cond, ◌&&◌}
use mathlib.Core.Path.{◌≡◌, refl, ◌∙◌}
use mathlib.Core.Logic.{⊎_elim}
use native.Mathlib.Omega.{arith}
use native.Mathlib.Nat.{pow-le-pow_right, lt_of_lt_of_le}
use borrow.Author.Tests.{le-leb, lt-leb, leb-true}
use Rattle.std.specs.Bool.{then_some}
use lib.ListN.{length}
use lib.Dec.{leb, lit<}
use Rattle.numeral.specs.Digits.{all_digits, value_of}
use Rattle.numeral.specs.Integer.{in_range, is_integer, integer_of}
use Rattle.text.proofs.Cases.{and_both, true-or-false, cond_yes}
use Rattle.numeral.proofs.Digits.{value_from-below}

-- ---- A range
module _ (low high n : ℕ) where
  pub range-low : n < low → None ≡ in_range low high n
  unfolding in_range
  range-low h = simp (lt-leb low n h)

  pub range-test : low ≤ n → then_some (leb n high) n ≡ in_range low high n
  unfolding in_range
  range-test h = rw (le-leb low n h) (go (leb n high))
    where
      go : (t : Bool) → then_some t n ≡ cond t (Some n) None
      go true = refl
      go false = refl

  pub range-value : low ≤ n → n ≤ high → Some n ≡ in_range low high n
  unfolding in_range
  range-value h k = simp (le-leb low n h, le-leb n high k)

  -- above the range, whatever the lower end
  pub range-above : high < n → None ≡ in_range low high n
  unfolding in_range
  range-above k = go (leb low n)
    where
      go : (t : Bool) → None ≡ cond (t && leb n high) (Some n) None
      go true = rw (lt-leb n high k)
      go false = refl

pub not-bad : (n : ℕ) → None ≡ Some n → ⊥
not-bad n e = let z : ◌≡◌ {A = ℕ} 0 1 = cc in omega arith

value-is : (v n : ℕ) → Some v ≡ Some n → v ≡ n
value-is v n e = cc

pub cond_value : (b : Bool) (v n : ℕ) → cond b (Some v) None ≡ Some n → (b ≡ true) × (v ≡ n)
cond_value b v n e = let t = cond_yes b (Some v) (not-bad n) e in (t.0, value-is v n t.1)

pub record RangeIs (low high n m : ℕ) : Type 0 where
  pub same : n ≡ m
  pub least : low ≤ n
  pub most : n ≤ high

pub range-inv : (low high n m : ℕ) → in_range low high n ≡ Some m → RangeIs low high n m
unfolding in_range
range-inv low high n m e =
    let t = cond_value (leb low n && leb n high) n m e in
    let u = and_both (leb low n) (leb n high) t.0 in
    record { same = t.1; least = leb-true low n u.0; most = leb-true n high u.1 }

-- ---- A field
pub integer_empty : (s : List ℕ) → length s ≡ 0 → is_integer s ≡ false
unfolding is_integer
integer_empty s e = rw (lt-leb 1 (length s) (omega arith))

pub integer-long : (s : List ℕ) → 10 < length s → is_integer s ≡ false
unfolding is_integer
integer-long s h = rw (le-leb 1 (length s) (omega arith), lt-leb (length s) 10 h)

pub integer-other : (s : List ℕ) → 1 ≤ length s → length s ≤ 10 → all_digits s ≡ false → is_integer s ≡ false
unfolding is_integer
integer-other s h k e = rw (le-leb 1 (length s) h, le-leb (length s) 10 k, e)

pub integer-yes : (s : List ℕ) → 1 ≤ length s → length s ≤ 10 → all_digits s ≡ true → is_integer s ≡ true
unfolding is_integer
integer-yes s h k e = rw (le-leb 1 (length s) h, le-leb (length s) 10 k, e)

pub integer-bad : (low high : ℕ) (s : List ℕ) → is_integer s ≡ false → None ≡ integer_of low high s
unfolding integer_of
integer-bad low high s e = rw e

pub integer-value : (low high : ℕ) (s : List ℕ) → is_integer s ≡ true → in_range low high (value_of s) ≡ integer_of low high s
unfolding integer_of
integer-value low high s e = rw e

-- ---- What a good field says
pub record IntegerIs (low high : ℕ) (s : List ℕ) (n : ℕ) : Type 0 where
  pub some : 1 ≤ length s
  pub short : length s ≤ 10
  pub all : all_digits s ≡ true
  pub worth : value_of s ≡ n
  pub least : low ≤ n
  pub most : n ≤ high

pub integer-inv : (low high : ℕ) (s : List ℕ) (n : ℕ) → integer_of low high s ≡ Some n → IntegerIs low high s n
unfolding is_integer
integer-inv low high s n e =
    ⊎_elim (λ (t : is_integer s ≡ true).
    let r = range-inv low high (value_of s) n (integer-value low high s t ∙ e) in
    let u = and_both (leb 1 (length s) && leb (length s) 10) (all_digits s) t in
    let w = and_both (leb 1 (length s)) (leb (length s) 10) u.0 in
    record {
      some = leb-true 1 (length s) w.0;
      short = leb-true (length s) 10 w.1;
      all = u.1;
      worth = r.same;
      least = rw (← r.same) r.least;
      most = rw (← r.same) r.most;
    })
    (λ (t : is_integer s ≡ false). absurd (not-bad n (integer-bad low high s t ∙ e)))
    (true-or-false (is_integer s))

-- so many digits are worth less than ten to their number
pub value-below : (s : List ℕ) (k : ℕ) → all_digits s ≡ true → length s ≤ k → value_of s < 10 ^ k
value-below s k a h =
    let b : value_of s < (0 + 1) * 10 ^ length s = value_from-below s 0 a in
    lt_of_lt_of_le (omega arith) (pow-le-pow_right {n = 10} (lit< tt) h)
