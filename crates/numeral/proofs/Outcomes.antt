-- The answers of the functions that make or take signed numbers, in the words of the definitions. Assumes nothing.
use Rattle.std.proofs.Common.{None, Option, Some}
use Prim.Native.Nat.{ℕ, suc, ◌+◌, ◌*◌, ◌-◌, ◌^◌, ◌≤◌, ◌<◌, min, ◌/◌, ◌%◌}
use mathlib.Core.List.{List, [], ◌∷◌}
use mathlib.Core.Bool.{Bool, true, false, cond}
use mathlib.Core.Path.{◌≡◌, ap, ◌∙◌, sym}
use native.Mathlib.Omega.{arith}
use lib.Dec.{eqb}
use lib.IntN.{ℤ, pos, negsuc, nat_abs, ◌+ℤ◌}
use lib.ListN.{length, drop}
use Rattle.signed.specs.Signed.{is_negative, signed_of, largest}
use Rattle.signed.proofs.Difference.{sub-above, sub-below}
use lib.Signed.{mag, lt_z}
use Rattle.signed.proofs.Machine.{rd, rd-at, below-zero}
use Rattle.numeral.specs.Digits.{is_minus}
use Rattle.numeral.specs.Integer.{in_range, integer_of, signed_as, counter_of}
use Rattle.numeral.specs.Worth.{whole_at, whole_of, nearest, round_at, rounded_of}
use Rattle.numeral.specs.Inside.{shift_of, Held}
use Rattle.numeral.specs.declared.Decimal.{Decimal}
use Rattle.numeral.specs.declared.Shift.TheVariants.{Up, Down}
use Rattle.text.proofs.Cases.{cond_yes}
use Rattle.numeral.proofs.Integer.{not-bad, integer-inv, value-below, range-inv}
use Rattle.numeral.proofs.Scaling.{down_of}

-- a size that an i64 holds is not cut
pub held-size : (s : Bool) (n : ℕ) → n ≤ largest → signed_of s (min n largest) ≡ signed_of s n
held-size s n h = let e : min n largest ≡ n = omega arith in rw e

-- ---- A size with its sign
pub as-value : (negative : Bool) (n : (Option ℕ)) (size : ℕ) (z : ℤ) → n ≡ Some size → Held n → z ≡ signed_of negative (min size largest)
    → Some z ≡ signed_as negative n
unfolding signed_as Held
as-value negative n size z e h p = rw e (ap Some (p ∙ held-size negative size (rw e at h)))

pub as-bad : (negative : Bool) (n : (Option ℕ)) → n ≡ None → None ≡ signed_as negative n
unfolding signed_as
as-bad negative n e = rw e

pub held-integer : (low high : ℕ) (s : List ℕ) (n : (Option ℕ)) → n ≡ integer_of low high s → Held n
unfolding Held
held-integer low high s (Some n) e =
    let i = integer-inv low high s n (sym e) in
    let w = i.worth in
    omega (arith, value-below s 10 i.all i.short)
held-integer low high s None e = tt

pub held-range : (low high v : ℕ) (n : (Option ℕ)) → high ≤ largest → n ≡ in_range low high v → Held n
unfolding Held
held-range low high v (Some n) h e =
    let i = range-inv low high v n (sym e) in
    let a = i.same in
    let b = i.most in
    omega arith
held-range low high v None h e = tt

-- ---- A counter value
pub minus-length : (s : List ℕ) → is_minus s ≡ true → 1 ≤ length s
unfolding is_minus
minus-length [] e = absurd (let z : ◌≡◌ {A = ℕ} 0 1 = cc in omega arith)
minus-length (b ∷ s) e = omega arith

pub counter-minus : (most : ℕ) (s : List ℕ) → is_minus s ≡ true → signed_as true (integer_of 0 most (drop 1 s)) ≡ counter_of most s
unfolding counter_of
counter-minus most s e = rw e

pub counter-plain : (most : ℕ) (s : List ℕ) → is_minus s ≡ false → signed_as false (integer_of 0 most s) ≡ counter_of most s
unfolding counter_of
counter-plain most s e = rw e

-- ---- A number of a struct, as the machine reads it
module _ (z : ℤ) (h : mag z < 2 ^ 63) where
  pub below-at : lt_z (rd z) (pos 0) ≡ is_negative z
  below-at = below-zero (record { sfits = h })

  pub size-at : nat_abs (rd z) ≡ nat_abs z
  size-at = ap nat_abs (rd-at z h)

-- ---- A shift, by the sign of the exponent and its size
pub shift-far : (e : ℤ) (by n : ℕ) → n ≡ nat_abs e → is_negative e ≡ false → Up (n + by) ≡ shift_of (e +ℤ pos by)
unfolding is_negative shift_of
shift-far (pos m) by n p h = rw p
shift-far (negsuc m) by n p h = absurd (let z : ◌≡◌ {A = ℕ} 0 1 = cc in omega arith)

pub shift-near : (e : ℤ) (by n : ℕ) → n ≡ nat_abs e → is_negative e ≡ true → n ≤ by → Up (by - n) ≡ shift_of (e +ℤ pos by)
unfolding is_negative shift_of
shift-near (pos m) by n p h l = absurd (let z : ◌≡◌ {A = ℕ} 0 1 = cc in omega arith)
shift-near (negsuc m) by n p h l = rw p (sym (ap shift_of (sub-above by (suc m) (omega arith))))

pub shift-down : (e : ℤ) (by n : ℕ) → n ≡ nat_abs e → is_negative e ≡ true → by < n → Down (n - by) ≡ shift_of (e +ℤ pos by)
unfolding is_negative shift_of
shift-down (pos m) by n p h l = absurd (let z : ◌≡◌ {A = ℕ} 0 1 = cc in omega arith)
shift-down (negsuc m) by n p h l =
    let q : n - by ≡ suc (suc m - suc by) = omega arith in
    ap Down q ∙ sym (ap shift_of (sub-below by (suc m) (omega arith)))

-- what a shift says of a worth
up-whole : (low high n k : ℕ) (x : ℤ) → shift_of x ≡ Up k → in_range low high (n * 10 ^ k) ≡ whole_at low high n x
unfolding shift_of whole_at
up-whole low high n k (pos j) e = let q : j ≡ k = cc in rw q
up-whole low high n k (negsuc j) e = absurd (let z : ◌≡◌ {A = ℕ} 0 1 = cc in omega arith)

down-whole : (low high n k : ℕ) (x : ℤ) → shift_of x ≡ Down k → down_of low high n (10 ^ k) ≡ whole_at low high n x
unfolding shift_of whole_at
down-whole low high n k (pos j) e = absurd (let z : ◌≡◌ {A = ℕ} 0 1 = cc in omega arith)
down-whole low high n k (negsuc j) e = let q : suc j ≡ k = cc in rw (← q)

up_round : (n k : ℕ) (x : ℤ) → shift_of x ≡ Up k → n * 10 ^ k ≡ round_at n x
unfolding shift_of round_at
up_round n k (pos j) e = let q : j ≡ k = cc in rw q
up_round n k (negsuc j) e = absurd (let z : ◌≡◌ {A = ℕ} 0 1 = cc in omega arith)

down_round : (n k : ℕ) (x : ℤ) → shift_of x ≡ Down k → nearest n (10 ^ k) ≡ round_at n x
unfolding shift_of round_at
down_round n k (pos j) e = absurd (let z : ◌≡◌ {A = ℕ} 0 1 = cc in omega arith)
down_round n k (negsuc j) e = let q : suc j ≡ k = cc in rw (← q)

pub down-some : (k : ℕ) (x : ℤ) → shift_of x ≡ Down k → 1 ≤ k
unfolding shift_of
down-some k (pos j) e = absurd (let z : ◌≡◌ {A = ℕ} 0 1 = cc in omega arith)
down-some k (negsuc j) e = let q : suc j ≡ k = cc in omega arith

-- ---- A whole worth, and a rounded one
module _ (d : Decimal) (shift low high : ℕ) where
  pub whole-negative : is_negative d.mantissa ≡ true → None ≡ whole_of d shift low high
  unfolding whole_of
  whole-negative e = rw e

  module _ (s : is_negative d.mantissa ≡ false) (n : ℕ) (p : n ≡ nat_abs d.mantissa) (k : ℕ) where
    pub whole-up : shift_of (d.exponent +ℤ pos shift) ≡ Up k → in_range low high (n * 10 ^ k) ≡ whole_of d shift low high
    unfolding whole_of
    whole-up e = rw (s, p) (up-whole low high (nat_abs d.mantissa) k (d.exponent +ℤ pos shift) e)

    pub whole-down : shift_of (d.exponent +ℤ pos shift) ≡ Down k → down_of low high n (10 ^ k) ≡ whole_of d shift low high
    unfolding whole_of
    whole-down e = rw (s, p) (down-whole low high (nat_abs d.mantissa) k (d.exponent +ℤ pos shift) e)

module _ (d : Decimal) (negative : Bool) (s : negative ≡ is_negative d.mantissa) (n : ℕ) (p : n ≡ nat_abs d.mantissa) (k : ℕ) where
  pub round_up : shift_of (d.exponent +ℤ pos 12) ≡ Up k → signed_as negative (in_range 0 200000000000000000 (n * 10 ^ k)) ≡ rounded_of d
  unfolding rounded_of
  round_up e = rw (s, p, up_round (nat_abs d.mantissa) k (d.exponent +ℤ pos 12) e)

  pub round-down : shift_of (d.exponent +ℤ pos 12) ≡ Down k → signed_as negative (in_range 0 200000000000000000 (nearest n (10 ^ k))) ≡ rounded_of d
  unfolding rounded_of
  round-down e = rw (s, p, down_round (nat_abs d.mantissa) k (d.exponent +ℤ pos 12) e)

-- what there is of a whole worth is in the range
range-both : (low high n m : ℕ) → in_range low high n ≡ Some m → (low ≤ m) × (m ≤ high)
range-both low high n m e = let r = range-inv low high n m e in rw (← r.same) (r.least, r.most)

at-range : (low high n : ℕ) (x : ℤ) (m : ℕ) → whole_at low high n x ≡ Some m → (low ≤ m) × (m ≤ high)
unfolding whole_at
at-range low high n (pos k) m e = range-both low high (n * 10 ^ k) m e
at-range low high n (negsuc k) m e =
    let c = cond_yes (eqb (n % 10 ^ suc k) 0) (in_range low high (n / 10 ^ suc k)) (not-bad m) e in
    range-both low high (n / 10 ^ suc k) m c.1

pub whole-range : (d : Decimal) (shift low high m : ℕ) → whole_of d shift low high ≡ Some m → (low ≤ m) × (m ≤ high)
unfolding whole_of
whole-range d shift low high m e = go (is_negative d.mantissa) e
  where
    go : (b : Bool) → cond b None (whole_at low high (nat_abs d.mantissa) (d.exponent +ℤ pos shift)) ≡ Some m → (low ≤ m) × (m ≤ high)
    go true q = absurd (not-bad m q)
    go false q = at-range low high (nat_abs d.mantissa) (d.exponent +ℤ pos shift) m q
