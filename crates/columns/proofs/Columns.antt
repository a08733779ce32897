-- The digits of a packed number are the kinds of the columns. Assumes nothing.
use Prim.Native.Nat.{ℕ, zero, suc, ◌+◌, ◌*◌, ◌/◌, ◌%◌, ◌^◌, ◌≤◌, ◌<◌}
use mathlib.Core.List.{List}
use mathlib.Core.Path.{◌≡◌, refl, sym, ap, ◌∙◌}
use native.Mathlib.Nat.{div-one}
use native.Mathlib.Numerals.{one-add}
use native.Mathlib.Omega.{arith}
use borrow.Author.Tests.{ne_eqb}
use lib.ListN.{length, get_or, drop, get_or-eq_default}
use lib.Pow.{shr-shr}
use lib.Seq.{get_or-drop}
use Rattle.shape.specs.declared.Edition.{Edition}
use Rattle.columns.specs.Columns.{columns_of}
use Rattle.columns.specs.Inside.{kind_number, kind_of, packed}
use Rattle.columns.specs.declared.Kind.{Kind}
use Rattle.columns.specs.declared.Kind.TheVariants.{Id, Reference, Required, Micros, Duration, Count, Natural, Decimal, Dwell, Absent}
use Rattle.columns.specs.declared.Form.{Form}
use Rattle.columns.specs.declared.Form.TheVariants.{Block, Rf, Gradient, Trap, Adc, Delay, Entry, Trigger}

-- ---- Digits
kind-few : (k : Kind) → kind_number k < 16
kind-few Id = omega arith
kind-few Reference = omega arith
kind-few Required = omega arith
kind-few Micros = omega arith
kind-few Duration = omega arith
kind-few Count = omega arith
kind-few Natural = omega arith
kind-few Decimal = omega arith
kind-few Dwell = omega arith
kind-few Absent = omega arith

kind-back : (k : Kind) → kind_of (kind_number k) ≡ k
kind-back Id = refl
kind-back Reference = refl
kind-back Required = refl
kind-back Micros = refl
kind-back Duration = refl
kind-back Count = refl
kind-back Natural = refl
kind-back Decimal = refl
kind-back Dwell = refl
kind-back Absent = refl

pub kind-rest : (n : ℕ) → (n ≡ 0 → ⊥) → (n ≡ 1 → ⊥) → (n ≡ 2 → ⊥) → (n ≡ 3 → ⊥) → (n ≡ 4 → ⊥) → (n ≡ 5 → ⊥) → (n ≡ 6 → ⊥) → (n ≡ 7 → ⊥) → (n ≡ 8 → ⊥) → Absent ≡ kind_of n
kind-rest n n0 n1 n2 n3 n4 n5 n6 n7 n8 =
    rw (ne_eqb n 0 n0, ne_eqb n 1 n1, ne_eqb n 2 n2, ne_eqb n 3 n3, ne_eqb n 4 n4, ne_eqb n 5 n5, ne_eqb n 6 n6, ne_eqb n 7 n7, ne_eqb n 8 n8)

-- ---- How many columns there are
pub counted : (form f : Form) (e : Edition) (n : ℕ) → form ≡ f → n ≡ length (columns_of e f) → n ≡ length (columns_of e form)
counted form f e n p q = rw p q

pub columns-few : (f : Form) (e : Edition) → length (columns_of e f) ≤ 9
unfolding columns_of
columns-few Block e = omega arith
columns-few Rf e = omega arith
columns-few Gradient e = omega arith
columns-few Trap e = omega arith
columns-few Adc e = omega arith
columns-few Delay e = omega arith
columns-few Entry e = omega arith
columns-few Trigger e = omega arith

-- ---- The kind of a column
pub kind-past : (f : Form) (e : Edition) (j : ℕ) → 8 < j → Absent ≡ get_or (columns_of e f) j Absent
kind-past f e j h = let l = columns-few f e in sym (get_or-eq_default (columns_of e f) Absent {n = j} (omega arith))

pub packed-as : (edition e : Edition) (form f : Form) (n : ℕ) → edition ≡ e → form ≡ f → n ≡ packed 9 (columns_of e f) → n ≡ packed 9 (columns_of edition form)
packed-as edition e form f n p q r = rw (p, q) r

-- a digit higher up is one of what is left without the lowest
higher : (a p j : ℕ) → a < 16 → (a + 16 * p) / 2 ^ (4 * suc j) ≡ p / 2 ^ (4 * j)
higher a p j h =
    let e : 4 * suc j ≡ 4 + 4 * j = omega arith in
    let q : (a + 16 * p) / 2 ^ 4 ≡ p = omega arith in
    rw (e, ← (shr-shr (a + 16 * p) 4 (4 * j)), q)

digit_at : (j n : ℕ) (ks : List Kind) → j < n → packed n ks / 2 ^ (4 * j) % 16 ≡ kind_number (get_or ks j Absent)
unfolding packed
digit_at j zero ks h = absurd (omega arith)
digit_at zero (suc n) ks h = let f = kind-few (get_or ks 0 Absent) in rw div-one (omega arith)
digit_at (suc j) (suc n) ks h =
    rw (higher (kind_number (get_or ks 0 Absent)) (packed n (drop 1 ks)) j (kind-few (get_or ks 0 Absent)))
    (digit_at j n (drop 1 ks) (omega arith) ∙ ap kind_number (get_or-drop 1 ks j Absent ∙ ap (λ (i : ℕ). get_or ks i Absent) (one-add j)))

pub kind-found : (ks : List Kind) (n j : ℕ) → n ≡ packed 9 ks → j ≤ 8 → kind_of (n / 2 ^ (4 * j) % 16) ≡ get_or ks j Absent
kind-found ks n j e h = rw e (ap kind_of (digit_at j 9 ks (omega arith)) ∙ kind-back (get_or ks j Absent))
