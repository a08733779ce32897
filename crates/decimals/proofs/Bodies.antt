-- From what the code joins, a mantissa and an exponent counted from 200 on, to the paper's decimal: form, kept pair, limits. Assumes nothing.
use Rattle.std.proofs.Common.{None, Option, Some}
use Prim.Native.Nat.{ℕ, ◌+◌, ◌-◌, ◌≤◌, ◌<◌}
use mathlib.Core.List.{List}
use mathlib.Core.Bool.{Bool, true, false, cond, ◌&&◌}
use mathlib.Core.Path.{◌≡◌, refl, ap, ◌∙◌, sym}
use mathlib.Core.Logic.{⊎_elim}
use native.Mathlib.Omega.{arith}
use borrow.Author.Tests.{le-leb, lt-leb, lt-ltb, le-ltb, ne_eqb}
use lib.Dec.{leb, ltb}
use lib.IntN.{ℤ, pos, sub_ℕ, ◌+ℤ◌, ◌-ℤ◌}
use lib.ListN.{length, take, drop}
use Rattle.signed.specs.Signed.{signed_of}
use Rattle.signed.proofs.Difference.{sub_same, sub-add, sub-pos, sub-neg-pos, sub-abs}
use Rattle.signed.proofs.Sign.{size-signed}
use Rattle.numeral.specs.Digits.{value_of, is_minus, unsigned}
use Rattle.decimals.specs.Decimal.{fraction, digits, is_mantissa, mantissa_part, exponent_part, is_exponent, exponent_of, strip_from, kept, in_limits, is_unsigned, kept_of, decimal_of}
use Rattle.decimals.specs.Inside.{large, worth_of, mantissa_of, power_of, pair_of, joined, body_of}
use Rattle.numeral.specs.declared.Decimal.{Decimal}
use Rattle.decimals.specs.declared.Mantissa.{Mantissa}
use Rattle.text.proofs.Cases.{true-or-false, lt-or-ge, eq-or-ne}
use Rattle.numeral.proofs.Parts.{tail-part}
use Rattle.decimals.proofs.Mantissas.{mantissa-inv}
use Rattle.decimals.proofs.Zeros.{strip-nothing, strip-some}
use Rattle.decimals.proofs.Powers.{power-inv, power-bad}

-- ---- The exponent of the kept pair
abbrev exponent_at : ℤ → ℕ → ℕ → ℤ
exponent_at e f z = e -ℤ pos f +ℤ pos z

exponent-is : (e : ℤ) (s f z : ℕ) → e ≡ sub_ℕ s 200 → exponent_at e f z ≡ sub_ℕ (s + z) (200 + f)
exponent-is e s f z h =
    ap (λ (x : ℤ). x +ℤ pos z) (ap (λ (x : ℤ). x -ℤ pos f) h ∙ ap (λ (x : ℤ). sub_ℕ s 200 +ℤ x) (sub-neg-pos f) ∙ sub-add s 200 0 f)
    ∙ ap (λ (x : ℤ). sub_ℕ (s + 0) (200 + f) +ℤ x) (sub-pos z)
    ∙ sub-add (s + 0) (200 + f) z 0
    ∙ sub_same (s + 0 + z) (200 + f + 0) (s + z) (200 + f) (omega arith)

-- ---- A pair from a mantissa that is not 0 and has no trailing zero
-- what is kept, if it is in the limits
abbrev keeping : Decimal → Option Decimal
keeping d = cond (in_limits d) (Some d) None

module _ (negative : Bool) (v s f z : ℕ) (e : ℤ) (h : e ≡ sub_ℕ s 200) (n : v ≡ 0 → ⊥) where
  abbrev the_kept : Decimal
  the_kept = record { mantissa = signed_of negative v; exponent = exponent_at e f z }

  limits : in_limits the_kept ≡ ltb v large && leb ((s + z - (200 + f)) + (200 + f - (s + z))) 99
  unfolding in_limits
  limits = rw (size-signed negative v, exponent-is e s f z h, sub-abs (s + z) (200 + f))

  pair-large : large ≤ v → keeping the_kept ≡ None
  pair-large l = rw (limits, le-ltb v large l)

  pair-out : v < large → 99 < (s + z - (200 + f)) + (200 + f - (s + z)) → pair_of negative v (s + z - f) ≡ keeping the_kept
  unfolding pair_of
  pair-out l o =
      rw (limits, lt-ltb v large l, lt-leb _ 99 o, ne_eqb v 0 n)
      (⊎_elim (λ (a : s + z - f < 101). rw (lt-leb 101 (s + z - f) a))
      (λ (a : 101 ≤ s + z - f). rw (le-leb 101 (s + z - f) a, lt-leb (s + z - f) 299 (omega arith)))
      (lt-or-ge (s + z - f) 101))

  pair-in : v < large → (s + z - (200 + f)) + (200 + f - (s + z)) ≤ 99 → pair_of negative v (s + z - f) ≡ keeping the_kept
  unfolding pair_of
  pair-in l i =
      rw (limits, lt-ltb v large l, le-leb _ 99 i, ne_eqb v 0 n, le-leb 101 (s + z - f) (omega arith), le-leb (s + z - f) 299 (omega arith))
      (ap (λ (x : ℤ). Some (record { mantissa = signed_of negative v; exponent = x }))
      (sub_same (s + z - f) 200 (s + z) (200 + f) (omega arith) ∙ sym (exponent-is e s f z h)))

  pair_is : v < large → pair_of negative v (s + z - f) ≡ keeping the_kept
  pair_is l =
      ⊎_elim (λ (o : 99 < (s + z - (200 + f)) + (200 + f - (s + z))). pair-out l o)
      (λ (i : (s + z - (200 + f)) + (200 + f - (s + z)) ≤ 99). pair-in l i)
      (lt-or-ge 99 ((s + z - (200 + f)) + (200 + f - (s + z))))

-- ---- The whole behind the sign
mantissa-bad : (m : List ℕ) → is_mantissa m ≡ false → mantissa_of m ≡ None
unfolding mantissa_of
mantissa-bad m e = rw e

module _ (negative : Bool) (m : List ℕ) (x : ℤ) (s : ℕ) (h : x ≡ sub_ℕ s 200) (i : is_mantissa m ≡ true) where
  abbrev n₀ : ℕ
  n₀ = value_of (digits m)

  abbrev the_kept₀ : Decimal
  the_kept₀ = kept negative n₀ (x -ℤ pos (length (fraction m)))

  zero_is : n₀ ≡ 0 → joined negative (mantissa_of m) (Some s) ≡ keeping the_kept₀
  unfolding mantissa_of joined pair_of kept in_limits
  zero_is e = rw (i, e, strip-nothing)

  some_is : (n₀ ≡ 0 → ⊥) → joined negative (mantissa_of m) (Some s) ≡ keeping the_kept₀
  unfolding mantissa_of joined kept
  some_is e =
      let t = strip_from n₀ 0 in
      let p : 1 ≤ t.v = strip-some n₀ 0 (omega arith) in
      ⊎_elim (λ (l : t.v < large).
      rw (i, lt-ltb t.v large l, ne_eqb n₀ 0 e) (pair_is negative t.v s (length (fraction m)) t.zeros x h (λ q. omega arith) l))
      (λ (l : large ≤ t.v).
      rw (i, le-ltb t.v large l, ne_eqb n₀ 0 e) (sym (pair-large negative t.v s (length (fraction m)) t.zeros x h (λ q. omega arith) l)))
      (lt-or-ge t.v large)

  joined_is : joined negative (mantissa_of m) (Some s) ≡ keeping the_kept₀
  joined_is = ⊎_elim zero_is some_is (eq-or-ne n₀ 0)

joined-none : (negative : Bool) (m : Option Mantissa) → joined negative m None ≡ None
unfolding joined
joined-none negative (Some m) = refl
joined-none negative None = refl

joined-bad : (negative : Bool) (p : (Option ℕ)) → joined negative None p ≡ None
unfolding joined
joined-bad negative p = refl

pub body-decimal : (negative : Bool) (b : List ℕ)
    → body_of negative b ≡ cond (is_unsigned b && in_limits (kept_of negative b)) (Some (kept_of negative b)) None
unfolding body_of is_unsigned kept_of
body-decimal negative b =
    ⊎_elim (λ (i : is_mantissa (mantissa_part b) ≡ true). go (power_of (exponent_part b)) refl i)
    (λ (i : is_mantissa (mantissa_part b) ≡ false). rw (i, mantissa-bad (mantissa_part b) i) (joined-bad negative (power_of (exponent_part b))))
    (true-or-false (is_mantissa (mantissa_part b)))
  where
    go : (p : (Option ℕ)) → power_of (exponent_part b) ≡ p → is_mantissa (mantissa_part b) ≡ true
        → joined negative (mantissa_of (mantissa_part b)) (power_of (exponent_part b))
        ≡ cond (is_mantissa (mantissa_part b) && is_exponent (exponent_part b) && in_limits (kept_of negative b)) (Some (kept_of negative b)) None
    go (Some s) e i =
        let w = power-inv (exponent_part b) s e in
        rw (e, w.form, i) (joined_is negative (mantissa_part b) (exponent_of (exponent_part b)) s w.worth i)
    go None e i = rw (e, i, power-bad (exponent_part b) e) (joined-none negative (mantissa_of (mantissa_part b)))

-- ---- By its parts, as the code cuts them: e is where the exponent starts
module _ (negative : Bool) (s : List ℕ) (m : Option Mantissa) (p : m ≡ mantissa_of (mantissa_part s)) where
  pub body-bad : m ≡ None → None ≡ body_of negative s
  unfolding body_of
  body-bad q = rw (← p, q) (sym (joined-bad negative (power_of (exponent_part s))))

  module _ (v z f e : ℕ) (x : (Option ℕ)) (q : m ≡ worth_of v z f e) (r : x ≡ power_of (take (length s - e) (drop e s))) where
    body_is : joined negative (worth_of v z f e) x ≡ body_of negative s
    unfolding body_of exponent_part
    body_is = rw (← p, q, r, tail-part s e, (mantissa-inv (mantissa_part s) v z f e (sym p ∙ q)).1)

    pub body-value : (n : ℕ) → x ≡ Some n → pair_of negative v (n + z - f) ≡ body_of negative s
    unfolding joined
    body-value n h = rw h at body_is

    pub body-none : x ≡ None → None ≡ body_of negative s
    unfolding joined
    body-none h = rw h at body_is

-- ---- A field
pub decimal-long : (s : List ℕ) → 32 < length s → None ≡ decimal_of s
unfolding decimal_of
decimal-long s h = rw (lt-leb (length s) 32 h)

pub decimal-is : (s : List ℕ) → length s ≤ 32 → body_of (is_minus s) (unsigned s) ≡ decimal_of s
unfolding decimal_of
decimal-is s h = rw (le-leb (length s) 32 h) (body-decimal (is_minus s) (unsigned s))
