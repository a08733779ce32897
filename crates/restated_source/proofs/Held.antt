-- A row of a table that holds the numbers of a row of a file, but for a block's ns: its kind, and its own numbers. Assumes nothing.
use Prim.Native.Nat.{ℕ, suc, ◌≤◌, ◌<◌}
use mathlib.Core.Bool.{true, false, ◌&&◌, and-false, true≢false}
use mathlib.Core.List.{List}
use mathlib.Core.Logic.{⊎_elim}
use mathlib.Core.Path.{◌≡◌, sym, ◌∙◌}
use native.Mathlib.Omega.{arith}
use borrow.Author.Tests.{ne_eqb}
use lib.Dec.{eqb}
use lib.IntN.{ℤ, pos}
use lib.ListN.{length, get_or}
use Rattle.text.proofs.Cases.{eq-or-ne}
use Rattle.signed.specs.Signed.{same_z}
use Rattle.shape.specs.declared.Edition.{Edition}
use Rattle.columns.specs.Columns.{columns_of, form_number}
use Rattle.columns.specs.Rows.{padded}
use Rattle.columns.specs.Ranges.{InRange}
use Rattle.columns.specs.declared.Form.{Form}
use Rattle.columns.specs.declared.Form.TheVariants.{Block, Rf, Gradient, Trap, Adc, Delay, Entry, Trigger}
use Rattle.tables.specs.Tables.{number_at}
use Rattle.blocks.specs.Blocks.{is_block}
use Rattle.sayable.specs.Sayable.{is_kind}
use Rattle.said.specs.Said.{numbers_at, said_row}
use Rattle.file.specs.Rows.{Placed}
use Rattle.file_laws.proofs.Padded.{kind-first, own-number}
use Rattle.file_tables.specs.Tables.{cells_of}
use Rattle.restated_laws.proofs.SectionBack.{InRangeOf}
use Rattle.restated_laws.proofs.Ranging.{is_plain, other-range}

-- ---- "a block its ns besides as the tenth": all other numbers are the file's
abbrev pub RowHolds : List ℤ → ℕ → List ℤ → Type 0
RowHolds rows k cells = (c : ℕ) → c < 12 → (is_block rows k && eqb c 9) ≡ false → number_at rows k c ≡ get_or cells c (pos 0)

abbrev pub TableHolds : List ℤ → List Placed → Type 0
TableHolds rows rs = (k : ℕ) → k < length rs → RowHolds rows k (cells_of rs k)

-- ---- A row of a kind
pub kind-held : (rows : List ℤ) (k : ℕ) (cells : List ℤ) → RowHolds rows k cells → number_at rows k 0 ≡ get_or cells 0 (pos 0)
kind-held rows k cells held = held 0 (omega arith) (and-false (is_block rows k))

pub record RowIs (rows : List ℤ) (k kind : ℕ) (vs : List ℤ) : Type 0 where
  pub kind-is : number_at rows k 0 ≡ pos kind
  pub own : (c : ℕ) → c < 11 → (kind ≡ 1 → c ≡ 8 → ⊥) → number_at rows k (suc c) ≡ get_or vs c (pos 0)

module _ (rows : List ℤ) (k kind : ℕ) where
  pub is-kind : number_at rows k 0 ≡ pos kind → (other : ℕ) → is_kind rows k (pos other) ≡ eqb kind other
  unfolding is_kind same_z
  is-kind e other = rw e

  pub not-block : number_at rows k 0 ≡ pos kind → (kind ≡ 1 → ⊥) → is_block rows k ≡ false
  unfolding same_z
  not-block e other = rw (e, ne_eqb kind 1 other)

  not-nanos : number_at rows k 0 ≡ pos kind → (c : ℕ) → (kind ≡ 1 → c ≡ 8 → ⊥) → (is_block rows k && eqb (suc c) 9) ≡ false
  not-nanos e c other =
      ⊎_elim (λ (b : kind ≡ 1). rw (ne_eqb (suc c) 9 (λ (q : suc c ≡ 9). other b (omega arith))) (and-false (is_block rows k))) (λ b. rw (not-block e b)) (eq-or-ne kind 1)

  pub row_is : (vs : List ℤ) → length vs ≤ 11 → RowHolds rows k (padded kind vs) → RowIs rows k kind vs
  row_is vs few held =
      let first = kind-held rows k (padded kind vs) held ∙ kind-first kind vs few in
      record { kind-is = first; own = λ c (l : c < 11) other. held (suc c) (omega arith) (not-nanos first c other) ∙ own-number kind vs few c }

-- all its numbers, where it is no block
pub own_of : {rows : List ℤ} {k kind : ℕ} {vs : List ℤ} → RowIs rows k kind vs → (kind ≡ 1 → ⊥) → (c : ℕ) → c < 11 → number_at rows k (suc c) ≡ get_or vs c (pos 0)
own_of w other c l = w.own c l (λ q i. other q)

-- ---- A row by its columns, but a block, said by any target
module _ (e target : Edition) (rows : List ℤ) (k : ℕ) (form : Form) (p : is_plain form ≡ true) (vs : List ℤ) (r : InRange (columns_of e form) vs) (w : RowIs rows k (form_number form) vs) where
  plain_other : (form : Form) → is_plain form ≡ true → form_number form ≡ 1 → ⊥
  plain_other Block p q = true≢false (sym p)
  plain_other Rf p q = omega arith
  plain_other Gradient p q = omega arith
  plain_other Trap p q = omega arith
  plain_other Adc p q = omega arith
  plain_other Delay p q = omega arith
  plain_other Entry p q = omega arith
  plain_other Trigger p q = omega arith

  no_block : is_block rows k ≡ false
  no_block = not-block rows k (form_number form) w.kind-is (plain_other form p)

  pub plain-said : (raster count : ℕ) → InRangeOf target form (said_row target raster rows count k)
  plain-said raster count = other-range e target raster rows count k form vs r p no_block (own_of w (plain_other form p))

  pub plain-numbers : InRangeOf target form (numbers_at rows k)
  unfolding said_row
  plain-numbers = rw no_block at (plain-said 0 0)
