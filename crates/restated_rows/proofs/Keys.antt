-- Each row of a restated text has a key, by its section and by the row of the source that it stands for; delay rows stand for first uses. Assumes nothing.
use Prim.Native.Nat.{ℕ, suc, ◌+◌, ◌*◌, ◌^◌, min, ◌≤◌, ◌<◌}
use mathlib.Core.Bool.{Bool, true, false, ◌||◌}
use mathlib.Core.List.{List, [], ◌∷◌}
use mathlib.Core.Path.{◌≡◌, refl, ap}
use native.Mathlib.Omega.{arith}
use lib.IntN.{ℤ, pos, nat_abs}
use lib.ListN.{length, get_or}
use Rattle.signed.specs.Signed.{largest}
use Rattle.numeral.specs.Integer.{largest_id}
use Rattle.shape.specs.declared.Edition.{Edition}
use Rattle.shape.specs.declared.Edition.TheVariants.{V13, V14}
use Rattle.columns.specs.Columns.{columns_of, form_number}
use Rattle.columns.specs.Rows.{padded}
use Rattle.columns.specs.declared.Form.TheVariants.{Delay}
use Rattle.tables.specs.Tables.{number_at}
use Rattle.file.specs.Rows.{Placed}
use Rattle.sayable.specs.Sayable.{is_kind, nanos_at}
use Rattle.durations.specs.Durations.{is_first, delay_number}
use Rattle.durations.proofs.Using.{uses-few}
use Rattle.said.proofs.Short.{Small}
use Rattle.section_text.specs.Sections.{micros_at, delay_row}
use Rattle.restated_laws.proofs.RowBack.{own_of}
use Rattle.restated_laws.proofs.SectionBack.{back_row, first-number, micros-most}
use Rattle.restated_laws.proofs.TextBack.{delay_rows}
use Rattle.restated_rows.proofs.Sectioned.{Section, given-section, Rising, none_left, section-rising}
use Rattle.restated_rows.proofs.Standing.{KeptRow}
use Rattle.restated_rows.proofs.Sections.{is_listed, kind-true}

-- ---- A delay row: that of first use k
pub record DelayRow (rows : List ℤ) (count : ℕ) (row : List ℤ) (k : ℕ) : Type 0 where
  pub there : k < count
  pub first : is_first rows count k ≡ true
  pub long : length row ≡ 12
  pub kind : get_or row 0 (pos 0) ≡ pos (form_number Delay)
  pub number : get_or row 1 (pos 0) ≡ pos (delay_number rows count k)
  pub lasts : get_or row 2 (pos 0) ≡ pos (micros_at rows k)

module _ (rows : List ℤ) (count : ℕ) (small : Small rows) (few : count ≤ largest_id) where
  delay-is : (k : ℕ) → k < count → is_first rows count k ≡ true → DelayRow rows count (back_row V13 Delay (delay_row rows count k)) k
  unfolding columns_of own_of delay_row padded
  delay-is k h f =
      let d = first-number rows count k h f in
      let u = uses-few rows count 0 k in
      let m = micros-most rows k in
      let t : nanos_at rows k ≤ 2 ^ 63 = unfold nanos_at in small k 9 in
      let x : min (delay_number rows count k) largest ≡ delay_number rows count k = omega arith in
      let y : min (micros_at rows k) largest ≡ micros_at rows k = omega arith in
      record { there = h; first = f; long = refl; kind = refl; number = ap pos x; lasts = ap pos y }

  pub delay-section : (n : ℕ) → Section (is_first rows count) (DelayRow rows count) 0 count (delay_rows rows count V13 n)
  unfolding delay_rows
  delay-section n = given-section (is_first rows count) (λ k. back_row V13 Delay (delay_row rows count k)) (DelayRow rows count) count delay-is (suc n) 0 count (omega arith)

-- ---- The sections in their order: that of a kind. EXTENSIONS holds four kinds; delay rows are no kept rows
abbrev pub part_of : ℤ → ℕ
part_of kind = get_or (8 ∷ 0 ∷ 1 ∷ 2 ∷ 3 ∷ 4 ∷ 8 ∷ 6 ∷ 6 ∷ 6 ∷ 6 ∷ 7 ∷ []) (nat_abs kind) 8

pub kind-part : (rows : List ℤ) (k n : ℕ) → is_kind rows k (pos n) ≡ true → part_of (number_at rows k 0) ≡ part_of (pos n)
kind-part rows k n i = ap part_of (kind-true rows k (pos n) i)

pub listed-part : (rows : List ℤ) (k : ℕ) → is_listed rows k ≡ true → part_of (number_at rows k 0) ≡ 6
unfolding is_listed
listed-part rows k i = first (is_kind rows k (pos 7)) refl i
  where
    third : (b : Bool) → is_kind rows k (pos 9) ≡ b → (b || is_kind rows k (pos 10)) ≡ true → part_of (number_at rows k 0) ≡ 6
    third true e i = kind-part rows k 9 e
    third false e i = kind-part rows k 10 i

    second : (b : Bool) → is_kind rows k (pos 8) ≡ b → (b || (is_kind rows k (pos 9) || is_kind rows k (pos 10))) ≡ true → part_of (number_at rows k 0) ≡ 6
    second true e i = kind-part rows k 8 e
    second false e i = third (is_kind rows k (pos 9)) refl i

    first : (b : Bool) → is_kind rows k (pos 7) ≡ b → (b || (is_kind rows k (pos 8) || (is_kind rows k (pos 9) || is_kind rows k (pos 10)))) ≡ true → part_of (number_at rows k 0) ≡ 6
    first true e i = kind-part rows k 7 e
    first false e i = second (is_kind rows k (pos 8)) refl i

module _ (target : Edition) (raster : ℕ) (rows : List ℤ) (count : ℕ) where
  -- ---- A row with its key
  pub data Standing (row : List ℤ) : ℕ → Type 0 where
    kept : (k : ℕ) → KeptRow target raster rows count row k → Standing row (part_of (number_at rows k 0) * count + k)
    delay : (k : ℕ) → DelayRow rows count row k → Standing row (5 * count + k)

  -- keys rise in each section
  pub kept-rising : (p : ℕ) {is : ℕ → Bool} → ((k : ℕ) → is k ≡ true → part_of (number_at rows k 0) ≡ p) → {rs : List Placed} → Section is (KeptRow target raster rows count) 0 count rs
      → Rising Standing (p * count + 0) rs (p * count + (0 + count))
  kept-rising p part x = section-rising (p * count) count (λ row k h i g. let y : Standing row (part_of (number_at rows k 0) * count + k) = kept k g in rw (part k i) at y) x (omega arith)

  pub delays-rising : Small rows → count ≤ largest_id → (t : Edition) (n : ℕ) → Rising Standing (5 * count + 0) (delay_rows rows count t n) (5 * count + (0 + count))
  delays-rising small few V13 n = section-rising (5 * count) count (λ row k h i g. delay k g) (delay-section rows count small few n) (omega arith)
  delays-rising small few V14 n = unfold delay_rows in none_left {low = 5 * count + 0} {high = 5 * count + (0 + count)} (omega arith)
