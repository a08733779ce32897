-- What a field is worth in a column, in the words of the definitions; and that it is as wide as the column. Assumes nothing.
use Rattle.std.proofs.Common.{None, Option, Some}
use Prim.{Unit}
use Prim.Native.Nat.{ℕ, min, ◌≤◌}
use mathlib.Core.Bool.{true, false}
use mathlib.Core.List.{List}
use mathlib.Core.Path.{◌≡◌, refl, ap, ◌∙◌, sym}
use native.Mathlib.Omega.{arith}
use lib.IntN.{ℤ}
use Rattle.signed.specs.Signed.{signed_of, largest}
use Rattle.numeral.specs.Integer.{integer_of}
use Rattle.decimals.specs.Decimal.{decimal_of}
use Rattle.numeral.specs.Worth.{whole_of}
use Rattle.numeral.specs.Inside.{Held}
use Rattle.numeral.specs.declared.Decimal.{Decimal}
use Rattle.numeral.proofs.Outcomes.{held-size, held-integer, whole-range}
use Rattle.columns.specs.Columns.{is_absent, least_of, most_of, width_of}
use Rattle.rows.specs.Cells.{natural_cell, decimal_cell, dwell_cell, integer_cell, cell_of}
use Rattle.columns.specs.declared.Kind.{Kind}
use Rattle.columns.specs.declared.Kind.TheVariants.{Id, Reference, Required, Micros, Duration, Count, Natural as NaturalKind, Decimal as DecimalKind, Dwell, Absent}
use Rattle.rows.specs.declared.Cell.{Cell}
use Rattle.rows.specs.declared.Cell.TheVariants.{One, Two}

-- ---- A size that an i64 holds
natural-good : (m : (Option ℕ)) (n : ℕ) (z : ℤ) → m ≡ Some n → n ≤ largest → z ≡ signed_of false (min n largest) → Some (One z) ≡ natural_cell m
unfolding natural_cell signed_of
natural-good m n z e h p = rw e (ap (λ (v : ℤ). Some (One v)) (p ∙ held-size false n h))

natural-bad : (m : (Option ℕ)) → m ≡ None → None ≡ natural_cell m
unfolding natural_cell
natural-bad m e = rw e

-- ---- An integer field
module _ (kind : Kind) (field : List ℕ) (low high : ℕ) (l : low ≡ least_of kind) (h : high ≡ most_of kind) where
  same : integer_of low high field ≡ integer_of (least_of kind) (most_of kind) field
  same = rw (l, h)

  pub integer-good : (n : ℕ) (z : ℤ) → integer_of low high field ≡ Some n → z ≡ signed_of false (min n largest) → Some (One z) ≡ integer_cell kind field
  unfolding integer_cell Held
  integer-good n z e p = natural-good _ n z (sym same ∙ e) (held-integer low high field (Some n) (sym e)) p

  pub integer-none : integer_of low high field ≡ None → None ≡ integer_cell kind field
  unfolding integer_cell
  integer-none e = natural-bad _ (sym same ∙ e)

-- ---- A decimal
pub decimal-good : (x : (Option Decimal)) (d : Decimal) (m e : ℤ) → x ≡ Some d → m ≡ d.mantissa → e ≡ d.exponent → Some (Two m e) ≡ decimal_cell x
unfolding decimal_cell
decimal-good x d m e q a b = rw (q, a, b)

pub decimal-none : (x : (Option Decimal)) → x ≡ None → None ≡ decimal_cell x
unfolding decimal_cell
decimal-none x q = rw q

-- ---- A dwell
module _ (x : (Option Decimal)) (d : Decimal) (q : x ≡ Some d) where
  pub dwell-good : (n : ℕ) (z : ℤ) → whole_of d 0 1 1000000000 ≡ Some n → z ≡ signed_of false (min n largest) → Some (One z) ≡ dwell_cell x
  unfolding dwell_cell
  dwell-good n z e p = let h = (whole-range d 0 1 1000000000 n e).1 in rw q (natural-good _ n z e (omega arith) p)

  pub dwell-off : whole_of d 0 1 1000000000 ≡ None → None ≡ dwell_cell x
  unfolding dwell_cell
  dwell-off e = rw q (natural-bad _ e)

pub dwell-none : (x : (Option Decimal)) → x ≡ None → None ≡ dwell_cell x
unfolding dwell_cell
dwell-none x q = rw q

-- ---- The kind of a column says how its field is read
pub cell_as : (k l : Kind) (field : List ℕ) (c : (Option Cell)) → k ≡ l → c ≡ cell_of l field → c ≡ cell_of k field
cell_as k l field c e p = rw e p

pub cell-whole : (k : Kind) (field : List ℕ) → (k ≡ DecimalKind → ⊥) → (k ≡ Dwell → ⊥) → (k ≡ Absent → ⊥) → integer_cell k field ≡ cell_of k field
unfolding cell_of
cell-whole Id field a b d = refl
cell-whole Reference field a b d = refl
cell-whole Required field a b d = refl
cell-whole Micros field a b d = refl
cell-whole Duration field a b d = refl
cell-whole Count field a b d = refl
cell-whole NaturalKind field a b d = refl
cell-whole DecimalKind field a b d = absurd (a refl)
cell-whole Dwell field a b d = absurd (b refl)
cell-whole Absent field a b d = absurd (d refl)

-- ---- A column's cell is as wide as the column
pub absent-wide : (k : Kind) → is_absent k ≡ true → width_of k ≡ 1
absent-wide Id e = refl
absent-wide Reference e = refl
absent-wide Required e = refl
absent-wide Micros e = refl
absent-wide Duration e = refl
absent-wide Count e = refl
absent-wide NaturalKind e = refl
absent-wide DecimalKind e = absurd (let z : ◌≡◌ {A = ℕ} 0 1 = cc in omega arith)
absent-wide Dwell e = refl
absent-wide Absent e = refl

abbrev cell_width : (Option Cell) → ℕ → Type 0
cell_width (Some (One v)) w = w ≡ 1
cell_width (Some (Two a b)) w = w ≡ 2
cell_width None w = Unit

natural-wide : (m : (Option ℕ)) → cell_width (natural_cell m) 1
unfolding natural_cell
natural-wide (Some n) = refl
natural-wide None = tt

decimal-wide : (x : (Option Decimal)) → cell_width (decimal_cell x) 2
unfolding decimal_cell
decimal-wide (Some d) = refl
decimal-wide None = tt

dwell-wide : (x : (Option Decimal)) → cell_width (dwell_cell x) 1
unfolding dwell_cell
dwell-wide (Some d) = natural-wide (whole_of d 0 1 1000000000)
dwell-wide None = tt

integer-wide : (k : Kind) (f : List ℕ) → cell_width (integer_cell k f) 1
unfolding integer_cell
integer-wide k f = natural-wide (integer_of (least_of k) (most_of k) f)

cell-wide : (k : Kind) (f : List ℕ) → cell_width (cell_of k f) (width_of k)
unfolding cell_of
cell-wide Id f = integer-wide Id f
cell-wide Reference f = integer-wide Reference f
cell-wide Required f = integer-wide Required f
cell-wide Micros f = integer-wide Micros f
cell-wide Duration f = integer-wide Duration f
cell-wide Count f = integer-wide Count f
cell-wide NaturalKind f = integer-wide NaturalKind f
cell-wide DecimalKind f = decimal-wide (decimal_of f)
cell-wide Dwell f = dwell-wide (decimal_of f)
cell-wide Absent f = tt

pub one-wide : (k : Kind) (f : List ℕ) (v : ℤ) → cell_of k f ≡ Some (One v) → width_of k ≡ 1
one-wide k f v e = rw e at (cell-wide k f)

pub two-wide : (k : Kind) (f : List ℕ) (a b : ℤ) → cell_of k f ≡ Some (Two a b) → width_of k ≡ 2
two-wide k f a b e = rw e at (cell-wide k f)
