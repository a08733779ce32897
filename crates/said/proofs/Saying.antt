-- A row's numbers one after another, its duration as the target says it, and lines one after another. Assumes nothing.
use Prim.Native.Nat.{ℕ, suc, ◌+◌, ◌-◌, min, ◌≤◌, ◌<◌}
use mathlib.Core.Bool.{Bool, true, false}
use mathlib.Core.List.{List, [], ◌∷◌, ◌++◌, append_assoc, append-nil}
use mathlib.Core.Path.{◌≡◌, refl, sym, ◌∙◌}
use native.Mathlib.Numerals.{add-one}
use native.Mathlib.Omega.{arith}
use lib.IntN.{ℤ, pos}
use lib.ListN.{length, take, set, length-set}
use lib.Seq.{take_all, take-suc-set}
use Rattle.signed.specs.Signed.{same_z, signed_of, largest}
use Rattle.output.specs.Over.{farthest, Put}
use Rattle.output.proofs.Over.{put_then}
use Rattle.output.proofs.Partly.{Partly, partly_none, partly-length, partly_more, partly-all}
use Rattle.shape.specs.declared.Edition.{Edition}
use Rattle.shape.specs.declared.Edition.TheVariants.{V13}
use Rattle.columns.specs.declared.Form.{Form}
use Rattle.tables.specs.Tables.{number_at}
use Rattle.durations.specs.Durations.{delay_number}
use Rattle.said.specs.Said.{numbers_from, numbers_at, duration_of, duration_number, said_row, is_of_form, line_text, row_line, lines_text, section_of}

-- ---- the numbers of a row: those so far, and those that are left
pub record Copying (rows : List ℤ) (k : ℕ) (cells : List ℤ) (c : ℕ) : Type 0 where
  pub within : c ≤ 12
  pub long : length cells ≡ 12
  pub same : take c cells ++ numbers_from rows k c (12 - c) ≡ numbers_at rows k

module _ (rows : List ℤ) (k : ℕ) where
  pub copy_start : (cells : List ℤ) → length cells ≡ 12 → Copying rows k cells 0
  unfolding numbers_at
  copy_start cells e = record { within = omega arith; long = e; same = refl }

  module _ (cells : List ℤ) (c : ℕ) (w : Copying rows k cells c) where
    pub copy-turn : c < 12 → (v : ℤ) → v ≡ number_at rows k c → Copying rows k (set cells c v) (c + 1)
    unfolding numbers_from
    copy-turn h v p =
        let left : 12 - c ≡ suc (12 - suc c) = omega arith in
        let l = w.long in
        let s : take c cells ++ (number_at rows k c ∷ numbers_from rows k (suc c) (12 - suc c)) ≡ numbers_at rows k = rw left at w.same in
        record {
          within = omega arith;
          long = length-set cells c v ∙ w.long;
          same = rw (add-one c, take-suc-set cells c v (omega arith), append_assoc, p) s;
        }

    pub copy-end : 12 ≤ c → cells ≡ numbers_at rows k
    unfolding numbers_from
    copy-end h =
        let e : 12 - c ≡ 0 = omega arith in
        let l = w.long in
        let s : take c cells ++ [] ≡ numbers_at rows k = rw e at w.same in
        sym (take_all c cells (omega arith)) ∙ sym (append-nil (take c cells)) ∙ s

-- ---- the duration of a block
module _ (target : Edition) (raster : ℕ) (rows : List ℤ) (n k : ℕ) where
  pub duration-13 : target ≡ V13 → delay_number rows n k ≡ duration_of target raster rows n k
  unfolding duration_of
  duration-13 e = rw e

  pub duration-is : (d : ℕ) → d ≡ duration_of target raster rows n k → (r : ℤ) → r ≡ signed_of false (min d largest) → r ≡ duration_number target raster rows n k
  unfolding duration_number signed_of
  duration-is d p r q = q ∙ rw p

  pub said-block : same_z (number_at rows k 0) (pos 1) ≡ true → (cells : List ℤ) → cells ≡ numbers_at rows k → (v : ℤ) → v ≡ duration_number target raster rows n k
      → set cells 2 v ≡ said_row target raster rows n k
  unfolding said_row
  said-block e cells p v q = rw (e, p, q)

  pub said-other : same_z (number_at rows k 0) (pos 1) ≡ false → (cells : List ℤ) → cells ≡ numbers_at rows k → cells ≡ said_row target raster rows n k
  unfolding said_row
  said-other e cells p = rw e p

-- ---- lines
module _ (target : Edition) (raster : ℕ) (form : Form) (rows : List ℤ) (n k : ℕ) (b : Bool) (p : b ≡ is_of_form form rows k) where
  pub line_of : b ≡ true → (row : List ℤ) → row ≡ said_row target raster rows n k → line_text target form row ≡ row_line target raster form rows n k
  unfolding row_line
  line_of e row q = rw (← p, e, q)

  pub no_line : b ≡ false → [] ≡ row_line target raster form rows n k
  unfolding row_line
  no_line e = rw (← p, e)

-- ---- lines written one after another from a place on: what was written and the lines of the rows that are left make up the text
module _ (line : ℕ → List ℕ) (n : ℕ) where
  pub record LinesPut (l₀ : List ℕ) (from at : ℕ) (l : List ℕ) (k : ℕ) : Type 0 where
    pub within : k ≤ n
    pub part : Partly l₀ from (lines_text line 0 n) (lines_text line k (n - k)) at l

  pub lines_start : (l : List ℕ) (from : ℕ) → from ≤ farthest → length l ≤ farthest → LinesPut l from from l 0
  lines_start l from f h = let e : n - 0 ≡ n = omega arith in record { within = omega arith; part = rw e (partly_none f h) }

  module _ {l₀ l : List ℕ} {from at k : ℕ} (w : LinesPut l₀ from at l k) where
    pub lines-length : length l ≡ length l₀
    lines-length = partly-length w.part

    pub lines-turn : k < n → {r : ℕ} {l' : List ℕ} → Put l at (line k) r l' → LinesPut l₀ from r l' (k + 1)
    unfolding lines_text
    lines-turn h q =
        let left : n - k ≡ suc (n - suc k) = omega arith in
        record { within = omega arith; part = rw (add-one k) (partly_more w.part (line k) (lines_text line (suc k) (n - suc k)) (rw left) q) }

    pub lines_end : n ≤ k → Put l₀ from (lines_text line 0 n) at l
    unfolding lines_text
    lines_end h = let e : n - k ≡ 0 = omega arith in partly-all w.part (rw e)

-- ---- a section: its head, its lines and a blank line, or nothing
module _ (b : Bool) (head lines : List ℕ) where
  pub section-some : b ≡ true → {l l₁ l₂ l₃ : List ℕ} {at r₁ r₂ r₃ : ℕ} → Put l at head r₁ l₁ → Put l₁ r₁ lines r₂ l₂ → Put l₂ r₂ (10 ∷ []) r₃ l₃
      → Put l at (section_of b head lines) r₃ l₃
  section-some e x y z = rw e (put_then x (put_then y z))

  pub section-none : b ≡ false → [] ≡ section_of b head lines
  section-none e = rw e
