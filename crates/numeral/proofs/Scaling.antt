-- Laws of powers of ten: a number scaled up into a range, scaled down exactly, and scaled down to the nearest. Assumes nothing.
use Rattle.std.proofs.Common.{None, Option}
use Prim.Native.Nat.{ℕ, zero, suc, ◌+◌, ◌*◌, ◌-◌, ◌/◌, ◌%◌, ◌^◌, ◌<◌, ◌≤◌}
use mathlib.Core.Bool.{cond}
use mathlib.Core.List.{[], ◌∷◌}
use mathlib.Core.Path.{◌≡◌, sym, ap, ◌∙◌}
use native.Mathlib.Omega.{arith}
use native.Mathlib.Nat.{one-le-pow, pow-zero, pow-suc, mul-one, mul_assoc, add-zero, add-suc, mul-lt-mul_of_pos_right, pow-le-pow_right, mul-le-mul_right, lt_of_lt_of_le, le-div_iff_mul-le, div-lt_iff_lt-mul, mod-eq_of_lt, div-eq_of_lt, div-div-eq-div-mul, add-mul-div_left}
use borrow.Author.Tests.{eq-eqb, ne_eqb}
use lib.Dec.{eqb, lit<}
use lib.ListN.{get_or}
use Rattle.std.proofs.lemmas.List.FromFn.{get_or-map-range_with_len}
use Rattle.numeral.specs.Integer.{in_range}
use Rattle.numeral.specs.Worth.{nearest}
use Rattle.numeral.proofs.Integer.{range-above}

pub ten-some : (k : ℕ) → 0 < 10 ^ k
ten-some k = one-le-pow k 10 (lit< tt)

pub ten-most : {j k : ℕ} → j ≤ k → 10 ^ j ≤ 10 ^ k
ten-most h = pow-le-pow_right {n = 10} (lit< tt) h

pub power-some : {p : ℕ} (k : ℕ) → p ≡ 10 ^ k → 0 < p
power-some k e = rw e (ten-some k)

ten-plus : (a k : ℕ) → 10 ^ a * 10 ^ k ≡ 10 ^ (a + k)
ten-plus a zero = rw (pow-zero, mul-one, add-zero)
ten-plus a (suc k) = rw (pow-suc 10 k, add-suc, pow-suc 10 (a + k)) (sym (mul_assoc (10 ^ a) (10 ^ k) 10) ∙ ap (λ (x : ℕ). x * 10) (ten-plus a k))

-- the powers in the code's table
pub power-at : (k : ℕ) → k ≤ 18 → get_or (1 ∷ 10 ∷ 100 ∷ 1000 ∷ 10000 ∷ 100000 ∷ 1000000 ∷ 10000000 ∷ 100000000 ∷ 1000000000 ∷ 10000000000 ∷ 100000000000 ∷ 1000000000000 ∷ 10000000000000 ∷ 100000000000000 ∷ 1000000000000000 ∷ 10000000000000000 ∷ 100000000000000000 ∷ 1000000000000000000 ∷ []) k 0 ≡ 10 ^ k
power-at k h = get_or-map-range_with_len (λ n. 10 ^ n) 0 19 k k 0 (omega arith) (omega arith)

-- ---- Up
module _ (low high v k : ℕ) where
  pub up-far : (v ≡ 0 → ⊥) → 18 < k → high < 10 ^ 19 → None ≡ in_range low high (v * 10 ^ k)
  up-far n h b =
      let t : 10 ^ 19 ≤ 10 ^ k = ten-most h in
      let s : 1 * 10 ^ k ≤ v * 10 ^ k = mul-le-mul_right (10 ^ k) (omega arith) in
      range-above low high (v * 10 ^ k) (omega arith)

  module _ {p : ℕ} (e : p ≡ 10 ^ k) where
    pub up-over : 10 ^ 19 ≤ v * p → high < 10 ^ 19 → None ≡ in_range low high (v * 10 ^ k)
    up-over o b = range-above low high (v * 10 ^ k) (rw (← e) (omega arith))

    -- that the product stays below 10 ^ 19, as another power tells it
    pub up-most : k ≤ 18 → (rest : ℕ) → rest ≡ 10 ^ (18 - k) → v < rest * 10 → v * p < 10 ^ 19
    up-most h rest r o =
        let m : suc (18 - k) + k ≡ 19 = omega arith in
        let whole : rest * 10 * 10 ^ k ≡ 10 ^ 19 = rw (r, ← pow-suc 10 (18 - k)) (ten-plus (suc (18 - k)) k ∙ ap (λ (n : ℕ). 10 ^ n) m) in
        rw (e, ← whole) (mul-lt-mul_of_pos_right o (ten-some k))

    pub up_is : {n : ℕ} → n ≡ v * p → in_range low high n ≡ in_range low high (v * 10 ^ k)
    up_is q = rw (q, e)

-- ---- Down, exactly
abbrev pub down_of : ℕ → ℕ → ℕ → ℕ → Option ℕ
down_of low high v p = cond (eqb (v % p) 0) (in_range low high (v / p)) None

module _ (low high v k : ℕ) where
  module _ (h : 18 < k) (b : v < 10 ^ 19) where
    beyond : v < 10 ^ k
    beyond = lt_of_lt_of_le b (ten-most h)

    pub down-far : (v ≡ 0 → ⊥) → None ≡ down_of low high v (10 ^ k)
    down-far n = rw (mod-eq_of_lt beyond, ne_eqb v 0 n)

  module _ (p : ℕ) (e : p ≡ 10 ^ k) where
    pub down-part : (v % p ≡ 0 → ⊥) → None ≡ down_of low high v (10 ^ k)
    down-part n = rw (← e, ne_eqb (v % p) 0 n)

    pub down-whole : v % p ≡ 0 → in_range low high (v / p) ≡ down_of low high v (10 ^ k)
    down-whole n = rw (← e, eq-eqb (v % p) 0 n)

-- ---- Down, to the nearest
pub nearest-far : (v k : ℕ) → 19 < k → v < 10 ^ 19 → 0 ≡ nearest v (10 ^ k)
unfolding nearest
nearest-far v k h b =
    let t : 10 ^ 20 ≤ 10 ^ k = ten-most h in
    sym (div-eq_of_lt (omega arith))

pub nearest-ten : (v p : ℕ) → 0 < p → (v / p + 5) / 10 ≡ nearest v (p * 10)
unfolding nearest
nearest-ten v p h =
    let e : p * 10 / 2 ≡ p * 5 = omega arith in
    rw (e, ← div-div-eq-div-mul, add-mul-div_left v 5 h)

pub nearest-is : (v k p : ℕ) → 1 ≤ k → p ≡ 10 ^ (k - 1) → (v / p + 5) / 10 ≡ nearest v (10 ^ k)
nearest-is v k p h e =
    let s : k ≡ suc (k - 1) = omega arith in
    let t : 10 ^ k ≡ p * 10 = ap (λ (n : ℕ). 10 ^ n) s ∙ pow-suc 10 (k - 1) ∙ rw e in
    rw t (nearest-ten v p (power-some (k - 1) e))

-- at most half a step away, and up from the half: what "nearest, ties up" says
pub nearest-close : (v k : ℕ) → (nearest v (10 ^ k) * 10 ^ k ≤ v + 10 ^ k / 2) × (v + 10 ^ k / 2 < (nearest v (10 ^ k) + 1) * 10 ^ k)
unfolding nearest
nearest-close v k =
    ((le-div_iff_mul-le (ten-some k)).0 (omega arith), (div-lt_iff_lt-mul (ten-some k)).0 (omega arith))
