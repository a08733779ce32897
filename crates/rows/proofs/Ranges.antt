-- What is read from a line is in range. Assumes nothing.
use Rattle.numeral.specs.declared.Decimal.{Decimal}
use Rattle.std.proofs.Common.{Option, None, Some}
use Prim.Native.Nat.{ℕ, ◌≤◌}
use mathlib.Core.Bool.{Bool, true, false}
use mathlib.Core.List.{List, [], ◌∷◌, ◌++◌}
use mathlib.Core.Path.{◌≡◌, refl, sym, ◌∙◌}
use native.Mathlib.Omega.{arith}
use lib.IntN.{ℤ, pos}
use Rattle.decimals.specs.Decimal.{decimal_of}
use Rattle.numeral.specs.Integer.{integer_of}
use Rattle.numeral.specs.Worth.{whole_of}
use Rattle.numeral.proofs.Integer.{integer-inv}
use Rattle.numeral.specs.Kept.{Kept}
use Rattle.decimals.proofs.Kept.{decimal-kept}
use Rattle.numeral.proofs.Outcomes.{whole-range}
use Rattle.columns.specs.Columns.{least_of, most_of, is_absent}
use Rattle.rows.specs.Cells.{natural_cell, decimal_cell, dwell_cell, integer_cell, cell_of, with, row_from}
use Rattle.columns.specs.Ranges.{is_whole, InRange, no_more, no_field, one_number, two-numbers}
use Rattle.rows.proofs.Rows.{row-absent, row-short, row_field}
use Rattle.columns.specs.declared.Kind.{Kind}
use Rattle.columns.specs.declared.Kind.TheVariants.{Id, Reference, Required, Micros, Duration, Count, Natural, Decimal as DecimalKind, Dwell, Absent}
use Rattle.rows.specs.declared.Cell.{Cell}
use Rattle.rows.specs.declared.Cell.TheVariants.{One, Two}

-- ---- What a field can be worth
record NaturalIs (x : (Option ℕ)) (v : ℤ) : Type 0 where
  n : ℕ
  read : x ≡ Some n
  same : v ≡ pos n

natural-one : (x : (Option ℕ)) (v : ℤ) → natural_cell x ≡ Some (One v) → NaturalIs x v
unfolding natural_cell
natural-one (Some n) v e = record { n = n; read = refl; same = cc }
natural-one None v e = absurd (let z : ◌≡◌ {A = ℕ} 0 1 = cc in omega arith)

natural-two : (x : (Option ℕ)) (a b : ℤ) → natural_cell x ≡ Some (Two a b) → ⊥
unfolding natural_cell
natural-two (Some n) a b e = let z : ◌≡◌ {A = ℕ} 0 1 = cc in omega arith
natural-two None a b e = let z : ◌≡◌ {A = ℕ} 0 1 = cc in omega arith

-- one number
pub record WholeIs (k : Kind) (v : ℤ) : Type 0 where
  pub n : ℕ
  pub same : v ≡ pos n
  pub whole : is_whole k ≡ true
  pub least : least_of k ≤ n
  pub most : n ≤ most_of k

integer-one : (k : Kind) (f : List ℕ) (v : ℤ) → is_whole k ≡ true → integer_cell k f ≡ Some (One v) → WholeIs k v
unfolding integer_cell
integer-one k f v w e =
    let x = natural-one (integer_of (least_of k) (most_of k) f) v e in
    let i = integer-inv (least_of k) (most_of k) f x.n x.read in
    record { n = x.n; same = x.same; whole = w; least = i.least; most = i.most }

dwell-one : (x : (Option Decimal)) (v : ℤ) → dwell_cell x ≡ Some (One v) → WholeIs Dwell v
unfolding dwell_cell
dwell-one (Some d) v e =
    let x = natural-one (whole_of d 0 1 1000000000) v e in
    record {
      n = x.n;
      same = x.same;
      whole = refl;
      least = (whole-range d 0 1 1000000000 x.n x.read).0;
      most = (whole-range d 0 1 1000000000 x.n x.read).1;
    }
dwell-one None v e = absurd (let z : ◌≡◌ {A = ℕ} 0 1 = cc in omega arith)

decimal-one : (x : (Option Decimal)) (v : ℤ) → decimal_cell x ≡ Some (One v) → ⊥
unfolding decimal_cell
decimal-one (Some d) v e = let z : ◌≡◌ {A = ℕ} 0 1 = cc in omega arith
decimal-one None v e = let z : ◌≡◌ {A = ℕ} 0 1 = cc in omega arith

pub cell-one : (k : Kind) (f : List ℕ) (v : ℤ) → cell_of k f ≡ Some (One v) → WholeIs k v
unfolding cell_of
cell-one Id f v e = integer-one Id f v refl e
cell-one Reference f v e = integer-one Reference f v refl e
cell-one Required f v e = integer-one Required f v refl e
cell-one Micros f v e = integer-one Micros f v refl e
cell-one Duration f v e = integer-one Duration f v refl e
cell-one Count f v e = integer-one Count f v refl e
cell-one Natural f v e = integer-one Natural f v refl e
cell-one DecimalKind f v e = absurd (decimal-one (decimal_of f) v e)
cell-one Dwell f v e = dwell-one (decimal_of f) v e
cell-one Absent f v e = absurd (let z : ◌≡◌ {A = ℕ} 0 1 = cc in omega arith)

-- two numbers
pub record PairIs (k : Kind) (a b : ℤ) : Type 0 where
  pub decimal : k ≡ DecimalKind
  pub kept : Kept (record { mantissa = a; exponent = b })

integer-two : (k : Kind) (f : List ℕ) (a b : ℤ) → integer_cell k f ≡ Some (Two a b) → ⊥
unfolding integer_cell
integer-two k f a b e = natural-two (integer_of (least_of k) (most_of k) f) a b e

dwell-two : (x : (Option Decimal)) (a b : ℤ) → dwell_cell x ≡ Some (Two a b) → ⊥
unfolding dwell_cell
dwell-two (Some d) a b e = natural-two (whole_of d 0 1 1000000000) a b e
dwell-two None a b e = let z : ◌≡◌ {A = ℕ} 0 1 = cc in omega arith

decimal-two : (f : List ℕ) (x : (Option Decimal)) (a b : ℤ) → decimal_of f ≡ x → decimal_cell x ≡ Some (Two a b) → PairIs DecimalKind a b
unfolding decimal_cell
decimal-two f (Some d) a b h e =
    let p : d.mantissa ≡ a = cc in
    let q : d.exponent ≡ b = cc in
    record { decimal = refl; kept = rw (← p, ← q) (decimal-kept f d h) }
decimal-two f None a b h e = absurd (let z : ◌≡◌ {A = ℕ} 0 1 = cc in omega arith)

pub cell-two : (k : Kind) (f : List ℕ) (a b : ℤ) → cell_of k f ≡ Some (Two a b) → PairIs k a b
unfolding cell_of
cell-two Id f a b e = absurd (integer-two Id f a b e)
cell-two Reference f a b e = absurd (integer-two Reference f a b e)
cell-two Required f a b e = absurd (integer-two Required f a b e)
cell-two Micros f a b e = absurd (integer-two Micros f a b e)
cell-two Duration f a b e = absurd (integer-two Duration f a b e)
cell-two Count f a b e = absurd (integer-two Count f a b e)
cell-two Natural f a b e = absurd (integer-two Natural f a b e)
cell-two DecimalKind f a b e = decimal-two f (decimal_of f) a b refl e
cell-two Dwell f a b e = absurd (dwell-two (decimal_of f) a b e)
cell-two Absent f a b e = absurd (let z : ◌≡◌ {A = ℕ} 0 1 = cc in omega arith)

-- ---- One column, and the others
absent-is : (k : Kind) → is_absent k ≡ true → k ≡ Absent
absent-is Id e = cc
absent-is Reference e = cc
absent-is Required e = cc
absent-is Micros e = cc
absent-is Duration e = cc
absent-is Count e = cc
absent-is Natural e = cc
absent-is DecimalKind e = cc
absent-is Dwell e = cc
absent-is Absent e = refl

-- a row has what its first column gives in front of a row by the others
record Behind (o : Option (List ℤ)) (lead vs : List ℤ) : Type 0 where
  rest : List ℤ
  read : o ≡ Some rest
  same : vs ≡ lead ++ rest

no_row : (vs : List ℤ) → None ≡ Some vs → ⊥
no_row vs e = let z : ◌≡◌ {A = ℕ} 0 1 = cc in omega arith

with-one : (v : ℤ) (o : Option (List ℤ)) (vs : List ℤ) → with (Some (One v)) o ≡ Some vs → Behind o (v ∷ []) vs
unfolding with
with-one v None vs e = absurd (no_row vs e)
with-one v (Some us) vs e = record { rest = us; read = refl; same = cc }

with_two : (a b : ℤ) (o : Option (List ℤ)) (vs : List ℤ) → with (Some (Two a b)) o ≡ Some vs → Behind o (a ∷ b ∷ []) vs
unfolding with
with_two a b None vs e = absurd (no_row vs e)
with_two a b (Some us) vs e = record { rest = us; read = refl; same = cc }

with-bad : (o : Option (List ℤ)) (vs : List ℤ) → with None o ≡ Some vs → ⊥
unfolding with
with-bad o vs e = no_row vs e

-- ---- What is read is in range
module _ {k : Kind} {ks : List Kind} {vs us : List ℤ} where
  one-range : (v : ℤ) → WholeIs k v → vs ≡ v ∷ us → InRange ks us → InRange (k ∷ ks) vs
  one-range v x e r = rw (e, x.same) (one_number x.whole x.least x.most r)

  two-range : (a b : ℤ) → PairIs k a b → vs ≡ a ∷ b ∷ us → InRange ks us → InRange (k ∷ ks) vs
  two-range a b x e r = rw (e, x.decimal) (two-numbers x.kept r)

module _ (k : Kind) (ks : List Kind) (others : (fs : List (List ℕ)) (vs : List ℤ) → row_from ks fs ≡ Some vs → InRange ks vs) where
  skip_range : (fs : List (List ℕ)) (vs : List ℤ) → is_absent k ≡ true → row_from (k ∷ ks) fs ≡ Some vs → InRange (k ∷ ks) vs
  skip_range fs vs a e =
      let w = with-one (pos 0) (row_from ks fs) vs (sym (row-absent k ks fs a) ∙ e) in
      rw (absent-is k a, w.same) (no_field (others fs w.rest w.read))

  cell-range : (f : List ℕ) (fs : List (List ℕ)) (vs : List ℤ) (c : (Option Cell)) → cell_of k f ≡ c → with c (row_from ks fs) ≡ Some vs → InRange (k ∷ ks) vs
  cell-range f fs vs (Some (One v)) h e =
      let w = with-one v (row_from ks fs) vs e in
      one-range v (cell-one k f v h) w.same (others fs w.rest w.read)
  cell-range f fs vs (Some (Two a b)) h e =
      let w = with_two a b (row_from ks fs) vs e in
      two-range a b (cell-two k f a b h) w.same (others fs w.rest w.read)
  cell-range f fs vs None h e = absurd (with-bad (row_from ks fs) vs e)

  field-range : (fs : List (List ℕ)) (vs : List ℤ) → is_absent k ≡ false → row_from (k ∷ ks) fs ≡ Some vs → InRange (k ∷ ks) vs
  field-range [] vs a e = absurd (no_row vs (sym (row-short k ks a) ∙ e))
  field-range (f ∷ fs) vs a e = cell-range f fs vs (cell_of k f) refl (sym (row_field k ks f fs a) ∙ e)

  more-range : (b : Bool) (fs : List (List ℕ)) (vs : List ℤ) → is_absent k ≡ b → row_from (k ∷ ks) fs ≡ Some vs → InRange (k ∷ ks) vs
  more-range true fs vs a e = skip_range fs vs a e
  more-range false fs vs a e = field-range fs vs a e

last-range : (fs : List (List ℕ)) (vs : List ℤ) → row_from [] fs ≡ Some vs → InRange [] vs
unfolding row_from
last-range [] vs e = let q : vs ≡ [] = cc in rw q no_more
last-range (f ∷ fs) vs e = absurd (no_row vs e)

pub row-in-range : (ks : List Kind) (fs : List (List ℕ)) (vs : List ℤ) → row_from ks fs ≡ Some vs → InRange ks vs
row-in-range [] fs vs e = last-range fs vs e
row-in-range (k ∷ ks) fs vs e = more-range k ks (row-in-range ks) (is_absent k) fs vs refl e
