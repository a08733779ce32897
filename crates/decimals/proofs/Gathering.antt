-- Laws of digits that are gathered into 18 of them, a count of zeros and the place where they stop. Assumes nothing.
use Rattle.std.proofs.Common.{Option, Some, None}
use Prim.Native.Nat.{ℕ, ◌+◌, ◌*◌, ◌-◌, ◌^◌, ◌<◌, ◌≤◌}
use mathlib.Core.List.{List, [], ◌∷◌, ◌++◌}
use mathlib.Core.Bool.{Bool, true, false}
use mathlib.Core.Path.{◌≡◌, refl, ap, ◌∙◌}
use mathlib.Core.Logic.{◌⊎◌, inl, inr, ⊎_elim}
use native.Mathlib.Omega.{arith}
use native.Mathlib.Numerals.{add-one}
use native.Mathlib.Nat.{pow-suc, mul-one, add-zero, mul_assoc, one-le-pow, le_trans, mul-le-mul_left}
use borrow.Author.Tests.{lt-ltb, le-ltb, eq-eqb, ne_eqb}
use lib.Dec.{lit<}
use lib.ListN.{length, drop}
use Rattle.numeral.specs.Digits.{is_digit, all_digits, value_from}
use Rattle.decimals.specs.Decimal.{up_to, digits, mantissa_part, strip_from}
use Rattle.decimals.specs.Inside.{stop_of, gather_of, at_point, at_end, full, large}
use Rattle.decimals.specs.declared.Gathered.{Gathered}
use Rattle.text.proofs.Cases.{true-or-false, lt-or-ge, eq-or-ne, and_both}
use Rattle.numeral.proofs.Digits.{digit-least, digit-most, all_digits-append, value_from-append}
use Rattle.decimals.proofs.Parts.{lead, rest, lead-more, lead-none, lead-digits, part-next, digits-next}
use Rattle.decimals.proofs.Zeros.{strip-pow, Large, large-next, large-here}

-- ---- the four cases of a byte
pub gather-add : (v z i b : ℕ) (s : List ℕ) → is_digit b ≡ true → v < full → gather_of v z i (b ∷ s) ≡ gather_of (v * 10 + (b - 48)) z (i + 1) s
unfolding gather_of
gather-add v z i b s d h = simp (d, lt-ltb v full h)

pub gather-zero : (v z i b : ℕ) (s : List ℕ) → is_digit b ≡ true → full ≤ v → b ≡ 48 → gather_of v z i (b ∷ s) ≡ gather_of v (z + 1) (i + 1) s
unfolding gather_of
gather-zero v z i b s d h e = simp (d, le-ltb v full h, eq-eqb b 48 e)

pub gather-over : (v z i b : ℕ) (s : List ℕ) → is_digit b ≡ true → full ≤ v → (b ≡ 48 → ⊥) → gather_of v z i (b ∷ s) ≡ None
unfolding gather_of
gather-over v z i b s d h e = simp (d, le-ltb v full h, ne_eqb b 48 e)

pub gather-stop : (v z i b : ℕ) (s : List ℕ) → is_digit b ≡ false → gather_of v z i (b ∷ s) ≡ stop_of b v z i
unfolding gather_of
gather-stop v z i b s d = simp d

-- which case a byte is
cases : {A : Type 0} (v b : ℕ) → (is_digit b ≡ true → v < full → A) → (is_digit b ≡ true → full ≤ v → b ≡ 48 → A)
    → (is_digit b ≡ true → full ≤ v → (b ≡ 48 → ⊥) → A) → (is_digit b ≡ false → A) → A
cases v b add nil more other =
    ⊎_elim (λ (d : is_digit b ≡ true).
    ⊎_elim (add d) (λ (h : full ≤ v). ⊎_elim (nil d h) (more d h) (eq-or-ne b 48)) (lt-or-ge v full))
    other
    (true-or-false (is_digit b))

-- ---- the four cases of a byte that is no digit
module _ (b v z i : ℕ) where
  pub stop-point : b ≡ 46 → at_point v z i ≡ stop_of b v z i
  unfolding stop_of
  stop-point e = rw (eq-eqb b 46 e)

  module _ (p : b ≡ 46 → ⊥) where
    pub stop-e : b ≡ 101 → at_end v z i ≡ stop_of b v z i
    unfolding stop_of
    stop-e e = rw (ne_eqb b 46 p, eq-eqb b 101 e)

    module _ (q : b ≡ 101 → ⊥) where
      pub stop-capital : b ≡ 69 → at_end v z i ≡ stop_of b v z i
      unfolding stop_of
      stop-capital e = rw (ne_eqb b 46 p, ne_eqb b 101 q, eq-eqb b 69 e)

      pub stop-other : (b ≡ 69 → ⊥) → None ≡ stop_of b v z i
      unfolding stop_of
      stop-other r = rw (ne_eqb b 46 p, ne_eqb b 101 q, ne_eqb b 69 r)

-- ---- what is gathered. The number has at most 18 digits, and zeros are counted only behind 18 digits
pub record Packed (v z : ℕ) : Type 0 where
  pub small : v < large
  pub counts : (full ≤ v) ⊎ (z ≡ 0)

pub packed_start : Packed 0 0
packed_start = record { small = lit< tt; counts = inr refl }

counted : (v z : ℕ) → Packed v z → v < full → z ≡ 0
counted v z k h = ⊎_elim (λ (l : full ≤ v). absurd (omega arith)) (λ e. e) k.counts

packed-add : (v z b : ℕ) → Packed v z → is_digit b ≡ true → v < full → Packed (v * 10 + (b - 48)) z
packed-add v z b k d h =
    let p : 48 ≤ b = digit-least b d in
    let q : b ≤ 57 = digit-most b d in
    record { small = omega arith; counts = inr (counted v z k h) }

packed_zero : (v z : ℕ) → Packed v z → full ≤ v → Packed v (z + 1)
packed_zero v z k h = record { small = k.small; counts = inl h }

-- the value behind a digit more
value-add : (v z d : ℕ) → z ≡ 0 → v * 10 ^ z * 10 + d ≡ (v * 10 + d) * 10 ^ z
value-add v z d e = rw (e, mul-one v, mul-one)

value-zero : (v z b : ℕ) → b ≡ 48 → v * 10 ^ z * 10 + (b - 48) ≡ v * 10 ^ (z + 1)
value-zero v z b e = rw (e, add-one, pow-suc 10 z, add-zero) (mul_assoc v (10 ^ z) 10)

-- from v with z zeros at the place i to w with k zeros at the place j
pub record GatheredAs (s : List ℕ) (v z i w k j : ℕ) : Type 0 where
  pub value : value_from (v * 10 ^ z) (lead s) ≡ w * 10 ^ k
  pub packed : Packed w k
  pub place : j ≡ i + length (lead s)
  pub zeros : k ≤ z + length (lead s)

-- ---- what is not: a byte that is no digit, or too many digits
unfoldable pub Lost : List ℕ → ℕ → Type 0
Lost s n = (all_digits s ≡ false) ⊎ Large large (value_from n s)

large-rest : (s : List ℕ) (n : ℕ) → all_digits s ≡ true → Large large n → Large large (value_from n s)
unfolding all_digits value_from
large-rest [] n a l = l
large-rest (b ∷ s) n a l =
    let t = and_both (is_digit b) (all_digits s) a in
    let p : 48 ≤ b = digit-least b t.0 in
    let q : b ≤ 57 = digit-most b t.0 in
    large-rest s (n * 10 + (b - 48)) t.1 (large-next large n (b - 48) (omega arith) (omega arith) l)

lost-large : (s : List ℕ) (n : ℕ) → Large large n → Lost s n
unfolding Lost
lost-large s n l =
    ⊎_elim (λ (a : all_digits s ≡ true). inr (large-rest s n a l)) (λ (a : all_digits s ≡ false). inl a) (true-or-false (all_digits s))

pub lost-front : (d s : List ℕ) (n m : ℕ) → all_digits d ≡ true → value_from n d ≡ m → Lost s m → Lost (d ++ s) n
unfolding Lost
lost-front d s n m a e l =
    ⊎_elim (λ (f : all_digits s ≡ false). inl (rw (all_digits-append, a, f)))
    (λ (h : Large large (value_from m s)). inr (rw (value_from-append, e) h))
    l

pub lost-here : (b n : ℕ) (s : List ℕ) → is_digit b ≡ false → Lost (b ∷ s) n
unfolding Lost all_digits
lost-here b n s d = inl (rw d)

-- ---- what each answer says
-- where the digits stop: at a point, or where the mantissa ends
unfoldable pub Stops : List ℕ → Bool → Type 0
Stops s true = rest s ≡ 46 ∷ drop (length (lead s) + 1) s
Stops s false = mantissa_part (rest s) ≡ []

unfoldable pub Says : List ℕ → ℕ → ℕ → ℕ → Option Gathered → Type 0
Says s v z i (Some g) = GatheredAs s v z i g.v g.zeros g.stop × Stops s g.pointed
Says s v z i None =
    Lost (mantissa_part (rest s)) (value_from (v * 10 ^ z) (lead s)) × Lost (digits (mantissa_part (rest s))) (value_from (v * 10 ^ z) (lead s))

gathered_none : (s : List ℕ) (v z i : ℕ) → lead s ≡ [] → Packed v z → GatheredAs s v z i v z i
unfolding value_from
gathered_none s v z i e k = record { value = rw e; packed = k; place = rw e (omega arith); zeros = omega arith }

next-value : (b : ℕ) (s : List ℕ) (n : ℕ) → is_digit b ≡ true → value_from n (lead (b ∷ s)) ≡ value_from (n * 10 + (b - 48)) (lead s)
unfolding value_from
next-value b s n d = rw (lead-more b s d)

gathered_next : (b : ℕ) (s : List ℕ) (v z i w k v' z' i' : ℕ) → is_digit b ≡ true → v * 10 ^ z * 10 + (b - 48) ≡ w * 10 ^ k → k ≤ z + 1
    → GatheredAs s w k (i + 1) v' z' i' → GatheredAs (b ∷ s) v z i v' z' i'
gathered_next b s v z i w k v' z' i' d e l g =
    record {
      value = next-value b s (v * 10 ^ z) d ∙ ap (λ (n : ℕ). value_from n (lead s)) e ∙ g.value;
      packed = g.packed;
      place = rw (lead-more b s d) (let h = g.place in omega arith);
      zeros = rw (lead-more b s d) (let h = g.zeros in omega arith);
    }

stops-next : (b : ℕ) (s : List ℕ) → is_digit b ≡ true → (point : Bool) → Stops s point → Stops (b ∷ s) point
unfolding Stops
stops-next b s d true h = rw (lead-more b s d, add-one) (rw add-one at h)
stops-next b s d false h = rw (lead-more b s d) h

-- a digit more: from v with z zeros to w with k
says-next : (b : ℕ) (s : List ℕ) (v z i w k : ℕ) (g : Option Gathered) → is_digit b ≡ true → v * 10 ^ z * 10 + (b - 48) ≡ w * 10 ^ k → k ≤ z + 1
    → Says s w k (i + 1) g → Says (b ∷ s) v z i g
unfolding Says
says-next b s v z i w k (Some g) d e l h = (gathered_next b s v z i w k g.v g.zeros g.stop d e l h.0, stops-next b s d g.pointed h.1)
says-next b s v z i w k None d e l h = rw (next-value b s (v * 10 ^ z) d, e, lead-more b s d) h

-- one digit too many
grown : (v z : ℕ) → full ≤ v → full ≤ v * 10 ^ z
grown v z h = le_trans h (le_trans (omega (arith, mul-one v)) (mul-le-mul_left v (one-le-pow z 10 (lit< tt))))

says-over : (b : ℕ) (s : List ℕ) (v z i : ℕ) → is_digit b ≡ true → full ≤ v → (b ≡ 48 → ⊥) → Says (b ∷ s) v z i None
unfolding Says
says-over b s v z i d h q =
    let n = v * 10 ^ z * 10 + (b - 48) in
    let p : 48 ≤ b = digit-least b d in
    let r : b ≤ 57 = digit-most b d in
    let l : Large large (value_from (v * 10 ^ z) (lead (b ∷ s))) =
    rw (next-value b s (v * 10 ^ z) d)
    (large-rest (lead s) n (lead-digits s) (large-here large n (omega (arith, grown v z h)) (λ e. q (omega arith)))) in
    (lost-large _ _ l, lost-large _ _ l)

-- no digit
says-stop : (b : ℕ) (s : List ℕ) (v z i : ℕ) → is_digit b ≡ false → Packed v z → Says (b ∷ s) v z i (stop_of b v z i)
unfolding Says Stops
says-stop b s v z i d k =
    ⊎_elim (λ (e : b ≡ 46). rw (← (stop-point b v z i e)) (g, rw (lead-none b s d, e)))
    (λ (p : b ≡ 46 → ⊥).
    ⊎_elim (λ (e : b ≡ 101). rw (← (stop-e b v z i p e)) (g, rw (lead-none b s d, e) (unfold mantissa_part up_to in refl)))
    (λ (q : b ≡ 101 → ⊥).
    ⊎_elim (λ (e : b ≡ 69). rw (← (stop-capital b v z i p q e)) (g, rw (lead-none b s d, e) (unfold mantissa_part up_to in refl)))
    (λ (r : b ≡ 69 → ⊥).
    rw (← (stop-other b v z i p q r), lead-none b s d, part-next b s q r, digits-next b (mantissa_part s) p)
    (lost-here b _ (mantissa_part s) d, lost-here b _ (digits (mantissa_part s)) d))
    (eq-or-ne b 69))
    (eq-or-ne b 101))
    (eq-or-ne b 46)
  where
    g : GatheredAs (b ∷ s) v z i v z i
    g = gathered_none (b ∷ s) v z i (lead-none b s d) k

pub gather-says : (s : List ℕ) (v z i : ℕ) → Packed v z → Says s v z i (gather_of v z i s)
gather-says [] v z i k = unfold gather_of Says Stops lead mantissa_part up_to in (gathered_none [] v z i refl k, refl)
gather-says (b ∷ s) v z i k =
    cases v b
    (λ d h. rw (gather-add v z i b s d h)
    (says-next b s v z i (v * 10 + (b - 48)) z _ d (value-add v z (b - 48) (counted v z k h)) (omega arith)
    (gather-says s (v * 10 + (b - 48)) z (i + 1) (packed-add v z b k d h))))
    (λ d h q. rw (gather-zero v z i b s d h q)
    (says-next b s v z i v (z + 1) _ d (value-zero v z b q) (omega arith) (gather-says s v (z + 1) (i + 1) (packed_zero v z k h))))
    (λ d h q. rw (gather-over v z i b s d h q) (says-over b s v z i d h q))
    (λ d. rw (gather-stop v z i b s d) (says-stop b s v z i d k))

-- ---- the trailing zeros of what was gathered
pub gather-strip : (v z : ℕ) → Packed v z → strip_from (v * 10 ^ z) 0 ≡ strip_from v z
gather-strip v z k =
    ⊎_elim (λ (e : v ≡ 0).
    let f : z ≡ 0 = counted v z k (omega arith) in
    rw (e, f))
    (λ (e : v ≡ 0 → ⊥). strip-pow z v 0 (omega arith) ∙ ap (λ (n : ℕ). strip_from v n) (omega arith))
    (eq-or-ne v 0)
