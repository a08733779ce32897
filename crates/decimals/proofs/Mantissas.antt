-- Laws of the mantissa: what its digits, gathered up to the point and behind it, say of it. Assumes nothing.
use Rattle.std.proofs.Common.{Option, Some, None}
use Prim.Native.Nat.{ℕ, ◌+◌, ◌*◌, ◌-◌, ◌^◌, ◌≤◌, ◌<◌}
use mathlib.Core.List.{List, [], ◌∷◌, ◌++◌, append-nil}
use mathlib.Core.Bool.{Bool, true, false, cond, ◌&&◌, and-false}
use mathlib.Core.Path.{◌≡◌, refl, ap, ◌∙◌, sym}
use mathlib.Core.Logic.{⊎_elim}
use native.Mathlib.Omega.{arith}
use native.Mathlib.Nat.{lt_of_le_of_lt}
use borrow.Author.Tests.{le-leb, lt-leb, lt-ltb, le-ltb, ltb-true, eq-eqb, ne_eqb}
use lib.ListN.{length, drop, length-append, length-drop}
use lib.Dec.{ltb}
use Rattle.numeral.specs.Digits.{all_digits, value_from, value_of}
use Rattle.numeral.proofs.Digits.{digit_low, all_digits-append, value_from-append}
use Rattle.decimals.specs.Decimal.{fraction, digits, is_mantissa, mantissa_part, strip_from}
use Rattle.decimals.specs.Inside.{gather_of, at_point, at_end, worth_of, large, bare_of, mantissa_of, Fit}
use Rattle.decimals.specs.declared.Gathered.{Gathered}
use Rattle.decimals.specs.declared.Mantissa.{Mantissa}
use Rattle.text.proofs.Cases.{eq-or-ne}
use Rattle.decimals.proofs.Parts.{part-le, fraction-none, digits-none, fraction-point, digits-point, part-next, digits-front, fraction-front, lead, rest, lead-digits, part-front}
use Rattle.decimals.proofs.Zeros.{strip-le, strip-zeros, Large}
use Rattle.decimals.proofs.Gathering.{gather-says, gather-strip, Packed, packed_start, GatheredAs, Lost, lost-front, lost-here, Stops, Says}

-- ---- What was gathered, by where it stops
pub as_point : (g : Gathered) → g.pointed ≡ true → Some g ≡ at_point g.v g.zeros g.stop
as_point g e = ap (λ (b : Bool). Some (record { v = g.v; zeros = g.zeros; stop = g.stop; pointed = b })) e

pub as_end : (g : Gathered) → g.pointed ≡ false → Some g ≡ at_end g.v g.zeros g.stop
as_end g e = ap (λ (b : Bool). Some (record { v = g.v; zeros = g.zeros; stop = g.stop; pointed = b })) e

-- ---- The outcomes
mantissa-lost : (m : List ℕ) → Lost (digits m) 0 → None ≡ mantissa_of m
unfolding mantissa_of is_mantissa Lost Large
mantissa-lost m l =
    ⊎_elim (λ (a : all_digits (digits m) ≡ false). rw (a, and-false))
    (λ (a : Large large (value_of (digits m))). rw (le-ltb (strip_from (value_of (digits m)) 0).v large (a 0), and-false))
    l

-- n digits, f of them behind the point, that are worth v with z zeros; e is the length
record MantissaAs (m : List ℕ) (n v z f e : ℕ) : Type 0 where
  all : all_digits (digits m) ≡ true
  value : value_of (digits m) ≡ v * 10 ^ z
  packed : Packed v z
  count : n ≡ length (digits m)
  behind : f ≡ length (fraction m)
  long : e ≡ length m

bare-is : (m : List ℕ) (n v z f e : ℕ) → MantissaAs m n v z f e → bare_of n v z f e ≡ mantissa_of m
unfolding bare_of mantissa_of is_mantissa
bare-is m n v z f e a =
    ⊎_elim (λ (o : n ≡ 0). rw (eq-eqb n 0 o, lt-leb 1 (length (digits m)) (let c = a.count in omega arith)))
    (λ (o : n ≡ 0 → ⊥).
    rw (ne_eqb n 0 o, le-leb 1 (length (digits m)) (let c = a.count in omega arith), a.all, a.value, gather-strip v z a.packed, lt-ltb (strip_from v z).v large (lt_of_le_of_lt (strip-le v z) a.packed.small), a.behind, a.long))
    (eq-or-ne n 0)

-- ---- Digits that end at an e or the end
module _ (s : List ℕ) (v z i w k e : ℕ) (p : Packed v z) (q : gather_of v z i s ≡ at_end w k e) where
  end-says : GatheredAs s v z i w k e × (mantissa_part (rest s) ≡ [])
  unfolding Says Stops
  end-says = rw q at (gather-says s v z i p)

  end-part : mantissa_part s ≡ lead s
  end-part = part-front s ∙ ap (λ (l : List ℕ). lead s ++ l) end-says.1 ∙ append-nil (lead s)

-- what was gathered from the place i of a text on
pub record Ended (s : List ℕ) (i w k e : ℕ) : Type 0 where
  pub small : w < large
  pub zeros : k ≤ e
  pub least : i ≤ e
  pub inside : e ≤ length s

pub ended : (s : List ℕ) (v z i w k e : ℕ) → Packed v z → z ≤ i → i ≤ length s → gather_of v z i (drop i s) ≡ at_end w k e → Ended s i w k e
ended s v z i w k e p a b q =
    let t = drop i s in
    let h = (end-says t v z i w k e p q).0 in
    let n : length (mantissa_part t) ≡ length (lead t) = ap length (end-part t v z i w k e p q) in
    let g = h.place in
    let o = h.zeros in
    record {
      small = h.packed.small;
      zeros = omega arith;
      least = omega arith;
      inside = omega (arith, part-le t, length-drop i s);
    }

whole_is : (s : List ℕ) (v z e : ℕ) → gather_of 0 0 0 s ≡ at_end v z e → MantissaAs (mantissa_part s) e v z 0 e
whole_is s v z e q =
    let h = (end-says s 0 0 0 v z e packed_start q).0 in
    let m : mantissa_part s ≡ lead s = end-part s 0 0 0 v z e packed_start q in
    let n : e ≡ length (lead s) = omega (arith, h.place) in
    let d : digits (lead s) ≡ lead s =
    ap digits (sym (append-nil (lead s))) ∙ digits-front (lead s) [] (lead-digits s) ∙ rw digits-none (append-nil (lead s)) in
    let f : fraction (lead s) ≡ [] = ap fraction (sym (append-nil (lead s))) ∙ fraction-front (lead s) [] (lead-digits s) ∙ fraction-none in
    record {
      all = rw (m, d) (lead-digits s);
      value = rw (m, d) h.value;
      packed = h.packed;
      count = rw (m, d) n;
      behind = rw (m, f);
      long = rw m n;
    }

-- ---- Digits that end at a point
pub record Pointed (s : List ℕ) (v z p : ℕ) : Type 0 where
  pub packed : Packed v z
  pub zeros : z ≤ p
  pub inside : p < length s
  place : p ≡ length (lead s)
  value : value_of (lead s) ≡ v * 10 ^ z
  part : mantissa_part s ≡ lead s ++ (46 ∷ mantissa_part (drop (p + 1) s))

point-part : (s t : List ℕ) → rest s ≡ 46 ∷ t → mantissa_part s ≡ lead s ++ (46 ∷ mantissa_part t)
point-part s t e =
    part-front s
    ∙ ap (λ (l : List ℕ). lead s ++ l) (ap mantissa_part e ∙ part-next 46 t (λ r. omega arith) (λ r. omega arith))

pub pointed : (s : List ℕ) (v z p : ℕ) → gather_of 0 0 0 s ≡ at_point v z p → Pointed s v z p
unfolding Says Stops
pointed s v z p q =
    let h : GatheredAs s 0 0 0 v z p × (rest s ≡ 46 ∷ drop (length (lead s) + 1) s) = rw q at (gather-says s 0 0 0 packed_start) in
    let e : p ≡ length (lead s) = omega (arith, h.0.place) in
    let n : length (rest s) ≡ length (46 ∷ drop (length (lead s) + 1) s) = ap length h.1 in
    record {
      packed = h.0.packed;
      zeros = omega (arith, h.0.zeros);
      inside = omega (arith, length-drop (length (lead s)) s);
      place = e;
      value = h.0.value;
      part = rw e (point-part s (drop (length (lead s) + 1) s) h.1);
    }

point-digits : (s : List ℕ) (v z p : ℕ) → Pointed s v z p → digits (mantissa_part s) ≡ lead s ++ mantissa_part (drop (p + 1) s)
point-digits s v z p a =
    ap digits a.part ∙ digits-front (lead s) _ (lead-digits s) ∙ ap (λ (l : List ℕ). lead s ++ l) (digits-point _)

behind-is : (s : List ℕ) (v z p w k e : ℕ) → Pointed s v z p → gather_of v z (p + 1) (drop (p + 1) s) ≡ at_end w k e
    → MantissaAs (mantissa_part s) (e - 1) w k (e - 1 - p) e
behind-is s v z p w k e a q =
    let t = drop (p + 1) s in
    let h = (end-says t v z (p + 1) w k e a.packed q).0 in
    let g = h.place in
    let o = a.place in
    let m : mantissa_part t ≡ lead t = end-part t v z (p + 1) w k e a.packed q in
    let d : digits (mantissa_part s) ≡ lead s ++ lead t = point-digits s v z p a ∙ ap (λ (l : List ℕ). lead s ++ l) m in
    let f : fraction (mantissa_part s) ≡ lead t = ap fraction a.part ∙ fraction-front (lead s) _ (lead-digits s) ∙ fraction-point _ ∙ m in
    record {
      all = rw (d, all_digits-append, lead-digits s) (lead-digits t);
      value = rw (d, value_from-append, a.value) h.value;
      packed = h.packed;
      count = rw (d, length-append) (omega arith);
      behind = rw f (omega arith);
      long = rw (a.part, m, length-append) (omega arith);
    }

-- ---- What is no mantissa
pub first-lost : (s : List ℕ) → gather_of 0 0 0 s ≡ None → None ≡ mantissa_of (mantissa_part s)
unfolding Says Stops
first-lost s q =
    let n = value_of (lead s) in
    let h : Lost (mantissa_part (rest s)) n × Lost (digits (mantissa_part (rest s))) n = rw q at (gather-says s 0 0 0 packed_start) in
    let d : digits (mantissa_part s) ≡ lead s ++ digits (mantissa_part (rest s)) = ap digits (part-front s) ∙ digits-front (lead s) _ (lead-digits s) in
    mantissa-lost (mantissa_part s) (rw d (lost-front (lead s) _ 0 n (lead-digits s) refl h.1))

-- behind the point, a byte that is no digit or too many digits
behind-lost : (s : List ℕ) (v z p : ℕ) → Pointed s v z p → Lost (mantissa_part (rest (drop (p + 1) s))) (value_from (v * 10 ^ z) (lead (drop (p + 1) s)))
    → None ≡ mantissa_of (mantissa_part s)
behind-lost s v z p a l =
    let t = drop (p + 1) s in
    mantissa-lost (mantissa_part s)
    (rw (point-digits s v z p a, part-front t)
    (lost-front (lead s) _ 0 _ (lead-digits s) a.value (lost-front (lead t) _ (v * 10 ^ z) _ (lead-digits t) refl l)))

pub second-lost : (s : List ℕ) (v z p : ℕ) → Pointed s v z p → gather_of v z (p + 1) (drop (p + 1) s) ≡ None
    → None ≡ mantissa_of (mantissa_part s)
unfolding Says Stops
second-lost s v z p a q = behind-lost s v z p a (rw q at (gather-says (drop (p + 1) s) v z (p + 1) a.packed)).0

pub second-point : (s : List ℕ) (v z p w k e : ℕ) → Pointed s v z p → gather_of v z (p + 1) (drop (p + 1) s) ≡ at_point w k e
    → None ≡ mantissa_of (mantissa_part s)
unfolding Says Stops
second-point s v z p w k e a q =
    let t = drop (p + 1) s in
    let h = (rw q at (gather-says t v z (p + 1) a.packed)).1 in
    let m : mantissa_part (rest t) ≡ 46 ∷ mantissa_part (drop (length (lead t) + 1) t) =
    ap mantissa_part h ∙ part-next 46 _ (λ r. omega arith) (λ r. omega arith) in
    behind-lost s v z p a (rw m (lost-here 46 _ _ (digit_low 46 (omega arith))))

-- ---- Counts that fit
pub fit-bad : Fit None
unfolding Fit
fit-bad = tt

fit-bare : (n v z f e : ℕ) → v < large → z ≤ 32 → f ≤ 32 → Fit (bare_of n v z f e)
unfolding Fit bare_of
fit-bare n v z f e a b c =
    ⊎_elim (λ (o : n ≡ 0). rw (eq-eqb n 0 o) tt)
    (λ (o : n ≡ 0 → ⊥). rw (ne_eqb n 0 o) (omega (arith, strip-zeros v z), c))
    (eq-or-ne n 0)

pub fit-counts : (m : Option Mantissa) (v z f e : ℕ) → m ≡ worth_of v z f e → Fit m → (z < 2 ^ 62) × (f ≤ 32)
unfolding Fit
fit-counts m v z f e p h = rw p at h

-- ---- The answers
pub whole-answer : (s : List ℕ) (v z e : ℕ) (r : Option Mantissa) → length s ≤ 32 → gather_of 0 0 0 s ≡ at_end v z e → r ≡ bare_of e v z 0 e
    → (r ≡ mantissa_of (mantissa_part s)) × Fit r
whole-answer s v z e r l q b =
    let h = ended s 0 0 0 v z e packed_start (omega arith) (omega arith) q in
    (b ∙ bare-is (mantissa_part s) e v z 0 e (whole_is s v z e q), rw b (fit-bare e v z 0 e h.small (omega (arith, h.zeros, h.inside)) (omega arith)))

pub behind-answer : (s : List ℕ) (v z p w k e : ℕ) (r : Option Mantissa) → length s ≤ 32 → Pointed s v z p
    → gather_of v z (p + 1) (drop (p + 1) s) ≡ at_end w k e → r ≡ bare_of (e - 1) w k (e - 1 - p) e
    → (r ≡ mantissa_of (mantissa_part s)) × Fit r
behind-answer s v z p w k e r l a q b =
    let h = ended s v z (p + 1) w k e a.packed (omega (arith, a.zeros)) (omega (arith, a.inside)) q in
    (b ∙ bare-is (mantissa_part s) (e - 1) w k (e - 1 - p) e (behind-is s v z p w k e a q), rw b (fit-bare (e - 1) w k (e - 1 - p) e h.small (omega (arith, h.zeros, h.inside)) (omega (arith, h.inside))))

-- ---- At most 18 digits, and the length
some_inv : (m n : Mantissa) → Some m ≡ Some n → m ≡ n
some_inv m n e = cc

cond-inv : (a b : Bool) (v z f e w y g l : ℕ) → cond (a && b) (worth_of v z f e) None ≡ worth_of w y g l
    → (b ≡ true) × (v ≡ w) × (e ≡ l)
cond-inv true true v z f e w y g l q = let p = some_inv _ _ q in (refl, ap (λ (m : Mantissa). m.v) p, ap (λ (m : Mantissa). m.stop) p)
cond-inv true false v z f e w y g l q = absurd (let q : ◌≡◌ {A = ℕ} 0 1 = cc in omega arith)
cond-inv false b v z f e w y g l q = absurd (let q : ◌≡◌ {A = ℕ} 0 1 = cc in omega arith)

pub mantissa-inv : (m : List ℕ) (v z f e : ℕ) → mantissa_of m ≡ worth_of v z f e → (v < large) × (length m ≡ e)
unfolding mantissa_of
mantissa-inv m v z f e q =
    let t = strip_from (value_of (digits m)) 0 in
    let c = cond-inv (is_mantissa m) (ltb t.v large) t.v t.zeros (length (fraction m)) (length m) v z f e q in
    (rw (← c.1) (ltb-true t.v large c.0), c.2)
