-- What is read is kept in range and in normal form, so that equal pairs are equal values. Assumes nothing.
use Rattle.std.proofs.Common.{None, Some}
use Prim.Native.Nat.{ℕ, zero, suc, ◌+◌, ◌*◌, ◌/◌, ◌%◌, ◌^◌, ◌≤◌, ◌<◌}
use mathlib.Core.List.{List}
use mathlib.Core.Bool.{Bool, true, ◌&&◌}
use mathlib.Core.Path.{◌≡◌, refl, ap, ap₂, ◌∙◌, sym}
use mathlib.Core.Logic.{inl, inr, ⊎_elim}
use native.Mathlib.Omega.{arith}
use native.Mathlib.Nat.{pow-suc, mul_assoc, mul-one, mul-pos, zero-mul, one-le-pow, mul-mod_left, eq_of_mul-eq-mul_right}
use borrow.Author.Tests.{ltb-true, leb-true, eq-eqb, ne_eqb}
use lib.Dec.{leb, ltb, lit<}
use lib.IntN.{ℤ, pos, negsuc, nat_abs, neg_ℤ, ◌+ℤ◌, ◌*ℤ◌, sub_ℕ}
use lib.ListN.{length}
use Rattle.signed.specs.Signed.{is_negative, signed_of, same_z}
use Rattle.signed.proofs.Difference.{sub_same, sub-pos, sub-negsuc, sub-abs}
use Rattle.signed.proofs.Sign.{size-signed, sign-size, same_z-true, same_z-refl, abs_neg}
use Rattle.numeral.specs.Digits.{is_minus, unsigned}
use Rattle.decimals.specs.Decimal.{strip_from, kept, in_limits, is_unsigned, kept_of, decimal_of, same_decimal}
use Rattle.numeral.specs.Kept.{nothing, Normal, Kept}
use Rattle.numeral.specs.declared.Decimal.{Decimal}
use Rattle.text.proofs.Cases.{cond_yes, and_both, eq-or-ne}
use Rattle.decimals.proofs.Zeros.{strip-more, strip-done}

strip-last : (k n z : ℕ) → n ≤ k → 1 ≤ n → (strip_from n z).v % 10 ≡ 0 → ⊥
strip-last zero n z p l = absurd (omega arith)
strip-last (suc k) n z p l =
    ⊎_elim (λ (h : n % 10 ≡ 0). rw (strip-more n z l h) (strip-last k (n / 10) (z + 1) (omega arith) (omega arith)))
    (λ (h : n % 10 ≡ 0 → ⊥). rw (strip-done n z h) h)
    (eq-or-ne (n % 10) 0)

pub kept-normal : (negative : Bool) (n : ℕ) (e : ℤ) → Normal (kept negative n e)
unfolding kept
kept-normal negative n e =
    ⊎_elim (λ (h : n ≡ 0). rw (eq-eqb n 0 h) (inl refl))
    (λ (h : n ≡ 0 → ⊥). rw (ne_eqb n 0 h) (inr (rw (size-signed negative (strip_from n 0).v) (strip-last n n 0 (omega arith) (omega arith)))))
    (eq-or-ne n 0)

not-bad : (d : Decimal) → None ≡ Some d → ⊥
not-bad d e = let z : ◌≡◌ {A = ℕ} 0 1 = cc in omega arith

value-is : (c d : Decimal) → Some c ≡ Some d → c ≡ d
value-is c d e = cc

pub decimal-kept : (s : List ℕ) (d : Decimal) → decimal_of s ≡ Some d → Kept d
unfolding decimal_of kept_of in_limits
decimal-kept s d e =
    let k = kept_of (is_minus s) (unsigned s) in
    let a = cond_yes (leb (length s) 32 && is_unsigned (unsigned s) && in_limits k) (Some k) (not-bad d) e in
    let l = (and_both (leb (length s) 32 && is_unsigned (unsigned s)) (in_limits k) a.0).1 in
    let m = and_both (ltb (nat_abs k.mantissa) (10 ^ 18)) (leb (nat_abs k.exponent) 99) l in
    rw (← (value-is k d a.1))
    (record {
      digits = ltb-true _ _ m.0;
      power = leb-true _ _ m.1;
      normal = kept-normal (is_minus s) _ _;
    })

-- ---- Equal values are equal pairs
-- what a decimal is worth, in steps of 10^-99: exact, since no kept exponent is lower
pub worth_of : Decimal → ℤ
worth_of d = d.mantissa *ℤ pos (10 ^ nat_abs (d.exponent +ℤ pos 99))

ten-up : (b j : ℕ) → b * 10 ^ suc j ≡ b * 10 ^ j * 10
ten-up b j = rw (pow-suc 10 j, ← (mul_assoc b (10 ^ j) 10))

-- two numbers with no trailing zero and as many zeros behind them
same-scaled : (i j a b : ℕ) → (a % 10 ≡ 0 → ⊥) → (b % 10 ≡ 0 → ⊥) → a * 10 ^ i ≡ b * 10 ^ j → (a ≡ b) × (i ≡ j)
same-scaled zero zero a b p q e = (sym (mul-one a) ∙ e ∙ mul-one b, refl)
same-scaled zero (suc j) a b p q e =
    absurd (p (ap (λ (n : ℕ). n % 10) (sym (mul-one a) ∙ e ∙ ten-up b j) ∙ mul-mod_left (b * 10 ^ j) 10))
same-scaled (suc i) zero a b p q e =
    absurd (q (ap (λ (n : ℕ). n % 10) (sym (mul-one b) ∙ sym e ∙ ten-up a i) ∙ mul-mod_left (a * 10 ^ i) 10))
same-scaled (suc i) (suc j) a b p q e =
    let f : a * 10 ^ i * 10 ≡ b * 10 ^ j * 10 = sym (ten-up a i) ∙ e ∙ ten-up b j in
    let r = same-scaled i j a b p q (eq_of_mul-eq-mul_right 10 (lit< tt) (a * 10 ^ i) (b * 10 ^ j) f) in
    (r.0, ap suc r.1)

abs-times : (m : ℤ) (p : ℕ) → nat_abs (m *ℤ pos p) ≡ nat_abs m * p
abs-times (pos n) p = refl
abs-times (negsuc n) p = abs_neg (pos (suc n * p))

negative-neg : (n : ℕ) → 0 < n → is_negative (neg_ℤ (pos n)) ≡ true
unfolding is_negative
negative-neg zero h = absurd (omega arith)
negative-neg (suc n) h = refl

sign-times : (m : ℤ) (p : ℕ) → 0 < p → is_negative (m *ℤ pos p) ≡ is_negative m
sign-times (pos n) p h = unfold is_negative in refl
sign-times (negsuc n) p h = negative-neg (suc n * p) (mul-pos (omega arith) h) ∙ (unfold is_negative in refl)

power-same : (d e : ℤ) → nat_abs d ≤ 99 → nat_abs e ≤ 99 → nat_abs (d +ℤ pos 99) ≡ nat_abs (e +ℤ pos 99) → d ≡ e
power-same d e p q h = sub_back d p ∙ sub_same (nat_abs (d +ℤ pos 99)) 99 (nat_abs (e +ℤ pos 99)) 99 (omega arith) ∙ sym (sub_back e q)
  where
    -- an exponent from its distance above -99
    sub_back : (x : ℤ) → nat_abs x ≤ 99 → x ≡ sub_ℕ (nat_abs (x +ℤ pos 99)) 99
    sub_back (pos n) h = sub-pos n ∙ sub_same n 0 (n + 99) 99 (omega arith)
    sub_back (negsuc n) h =
        sub-negsuc n ∙ sub_same 0 (suc n) (nat_abs (sub_ℕ 99 (suc n))) 99 (let k = sub-abs 99 (suc n) in omega arith)

module _ (a b : Decimal) (e : worth_of a ≡ worth_of b) where
  same_size : nat_abs a.mantissa * 10 ^ nat_abs (a.exponent +ℤ pos 99) ≡ nat_abs b.mantissa * 10 ^ nat_abs (b.exponent +ℤ pos 99)
  unfolding worth_of
  same_size = sym (abs-times a.mantissa _) ∙ ap nat_abs e ∙ abs-times b.mantissa _

  same_sign : is_negative a.mantissa ≡ is_negative b.mantissa
  unfolding worth_of
  same_sign =
      sym (sign-times a.mantissa _ (one-le-pow _ 10 (lit< tt))) ∙ ap is_negative e ∙ sign-times b.mantissa _ (one-le-pow _ 10 (lit< tt))

-- nothing is worth nothing alone
nothing-alone : (b : Decimal) → Normal b → worth_of nothing ≡ worth_of b → nothing ≡ b
nothing-alone b n e =
    ⊎_elim (λ (z : b ≡ nothing). sym z)
    (λ (h : nat_abs b.mantissa % 10 ≡ 0 → ⊥).
    absurd (h (ap (λ (k : ℕ). k % 10) (only (nat_abs b.mantissa) _ (one-le-pow _ 10 (lit< tt)) (sym (same_size nothing b e) ∙ zero-mul (10 ^ 99))))))
    n
  where
    only : (m p : ℕ) → 0 < p → m * p ≡ 0 → m ≡ 0
    only zero p h e = refl
    only (suc m) p h e = absurd (let k : 0 < suc m * p = mul-pos (omega arith) h in omega arith)

both : (a b : Decimal) → Kept a → Kept b → (nat_abs a.mantissa % 10 ≡ 0 → ⊥) → (nat_abs b.mantissa % 10 ≡ 0 → ⊥) → worth_of a ≡ worth_of b → a ≡ b
both a b j k p q e =
    let r = same-scaled _ _ (nat_abs a.mantissa) (nat_abs b.mantissa) p q (same_size a b e) in
    let m : a.mantissa ≡ b.mantissa = sym (sign-size a.mantissa) ∙ ap₂ signed_of (same_sign a b e) r.0 ∙ sign-size b.mantissa in
    let x : a.exponent ≡ b.exponent = power-same a.exponent b.exponent j.power k.power r.1 in
    (λ i. record { mantissa = m i; exponent = x i })

pub equal-worth : (a b : Decimal) → Kept a → Kept b → worth_of a ≡ worth_of b → a ≡ b
equal-worth a b j k e =
    ⊎_elim (λ (z : a ≡ nothing). z ∙ nothing-alone b k.normal (rw z at e))
    (λ (p : nat_abs a.mantissa % 10 ≡ 0 → ⊥).
    ⊎_elim (λ (z : b ≡ nothing). sym (nothing-alone a j.normal (sym (rw z at e))) ∙ sym z)
    (λ (q : nat_abs b.mantissa % 10 ≡ 0 → ⊥). both a b j k p q e)
    k.normal)
    j.normal

-- ---- What the test of two decimals says
pub same-yes : (a : Decimal) → same_decimal a a ≡ true
unfolding same_decimal
same-yes a = rw (same_z-refl a.mantissa, same_z-refl a.exponent)

pub same_true : (a b : Decimal) → same_decimal a b ≡ true → a ≡ b
unfolding same_decimal
same_true a b e =
    let t = and_both (same_z a.mantissa b.mantissa) (same_z a.exponent b.exponent) e in
    let m = same_z-true a.mantissa b.mantissa t.0 in
    let x = same_z-true a.exponent b.exponent t.1 in
    (λ i. record { mantissa = m i; exponent = x i })
