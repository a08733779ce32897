-- How many numbers a row has: the columns of every form fit behind the kind, and so does a row in range. Assumes nothing.
use Prim.Native.Nat.{ℕ, zero, suc, ◌+◌, ◌-◌, ◌≤◌}
use mathlib.Core.Bool.{true}
use mathlib.Core.List.{List, ◌∷◌, ◌++◌}
use mathlib.Core.Path.{◌≡◌, refl, ap, ◌∙◌}
use native.Mathlib.Omega.{arith}
use native.Mathlib.Nat.{zero-add, sub-zero, zero-sub, suc-sub-suc}
use lib.IntN.{ℤ, pos}
use lib.ListN.{length, drop, replicate}
use lib.Seq.{sets-eq}
use Rattle.shape.specs.declared.Edition.{Edition}
use Rattle.shape.specs.declared.Edition.TheVariants.{V13, V14}
use Rattle.columns.specs.Columns.{columns_of, width_of}
use Rattle.columns.specs.Rows.{blank, padded}
use Rattle.columns.specs.Ranges.{is_whole, InRange, no_more, no_field, one_number, two-numbers}
use Rattle.columns.specs.Inside.{widths_of}
use Rattle.columns.specs.declared.Kind.{Kind}
use Rattle.columns.specs.declared.Kind.TheVariants.{Id, Reference, Required, Micros, Duration, Count, Natural, Decimal, Dwell, Absent}
use Rattle.columns.specs.declared.Form.{Form}
use Rattle.columns.specs.declared.Form.TheVariants.{Block, Rf, Gradient, Trap, Adc, Delay, Entry, Trigger}

-- ---- A column of one whole number is one number wide
pub whole-width : (k : Kind) → is_whole k ≡ true → width_of k ≡ 1
whole-width Id e = refl
whole-width Reference e = refl
whole-width Required e = refl
whole-width Micros e = refl
whole-width Duration e = refl
whole-width Count e = refl
whole-width Natural e = refl
whole-width Decimal e = absurd (let z : ◌≡◌ {A = ℕ} 0 1 = cc in omega arith)
whole-width Dwell e = refl
whole-width Absent e = refl

-- ---- The columns of every form have room behind the kind; RF fills it
pub room-all : (edition : Edition) (form : Form) → 1 + widths_of (columns_of edition form) ≤ 12
unfolding widths_of columns_of
room-all V13 Block = omega arith
room-all V14 Block = omega arith
room-all V13 Rf = omega arith
room-all V14 Rf = omega arith
room-all V13 Gradient = omega arith
room-all V14 Gradient = omega arith
room-all edition Trap = omega arith
room-all edition Adc = omega arith
room-all edition Delay = omega arith
room-all edition Entry = omega arith
room-all edition Trigger = omega arith

-- ---- A row in range has room behind the kind
row-width : {ks : List Kind} {vs : List ℤ} → InRange ks vs → length vs ≡ widths_of ks
unfolding widths_of
row-width no_more = refl
row-width (no_field r) = let e = row-width r in omega arith
row-width (one_number {k} e l m r) = let i = row-width r in let w = whole-width k e in omega arith
row-width (two-numbers k r) = let e = row-width r in omega arith

pub row_fits : (edition : Edition) (form : Form) {vs : List ℤ} → InRange (columns_of edition form) vs → length vs ≤ 11
row_fits edition form r = let e = row-width r in let w = room-all edition form in omega arith

-- ---- Behind the kind a padded row has its own numbers and zeros
drop-replicate : (n m : ℕ) (z : ℤ) → drop m (replicate n z) ≡ replicate (n - m) z
drop-replicate n zero z = rw (sub-zero n)
drop-replicate zero (suc m) z = rw (zero-sub (suc m))
drop-replicate (suc n) (suc m) z = rw (suc-sub-suc n m) (drop-replicate n m z)

pub padded-own : (kind : ℕ) (vs : List ℤ) → length vs ≤ 11 → drop 1 (padded kind vs) ≡ vs ++ replicate (11 - length vs) (pos 0)
unfolding padded
padded-own kind vs h =
    ap (drop 1) (sets-eq (pos kind ∷ vs) blank 0 (omega arith))
    ∙ ap (λ (n : ℕ). vs ++ drop n blank) (zero-add (suc (length vs)))
    ∙ ap (λ (zs : List ℤ). vs ++ zs) (drop-replicate 11 (length vs) (pos 0))
