-- Where all rows of a file are laid over a table, what is met again there is what is met again in the text. Assumes nothing.
use Prim.Native.Nat.{ℕ, ◌+◌, ◌*◌, ◌/◌, ◌≤◌, ◌<◌}
use mathlib.Core.Bool.{Bool, true, true≢false}
use mathlib.Core.List.{List}
use mathlib.Core.Logic.{⊎_elim}
use mathlib.Core.Path.{◌≡◌, sym, ◌∙◌}
use native.Mathlib.Omega.{arith}
use borrow.Author.Tests.{lt-ltb, ltb-true}
use lib.IntN.{ℤ}
use lib.ListN.{length}
use Rattle.text.proofs.Cases.{and_both, lt-or-ge}
use Rattle.signed.specs.Signed.{same_z}
use Rattle.signed.proofs.Sign.{same_z-refl, same_z-true}
use Rattle.columns.specs.Rows.{row_width}
use Rattle.tables.specs.Tables.{first_such, number_at, class_at, is_row_of, first_row, is_again}
use Rattle.tables.proofs.Found.{first-is}
use Rattle.tables.proofs.Numbers.{number-there}
use Rattle.file.specs.Rows.{rows_of, laid_rows}
use Rattle.duplicates.specs.Words.{duplicate_line}
use Rattle.duplicates.specs.Again.{RowAgain, Duplicate, by_row as by-table, by_word as by-words}
use Rattle.duplicates.proofs.First.{first-unique}
use Rattle.duplicates.proofs.Again.{duplicate-is}
use Rattle.file_tables.specs.Tables.{cells_of}
use Rattle.file_tables.proofs.Laid.{cells-twelve, row-held}
use Rattle.file_tables.proofs.Whole.{rows-twelve}
use Rattle.repeats.specs.Repeats.{duplicate_of}
use Rattle.repeats.specs.Once.{RowTwice, Twice, by_row, by_word}
use Rattle.repeats.proofs.Twice.{duplicate-of-is}

-- ---- a row of a table with the ID of a row before it in its class: which one that is
record Before (rows : List ℤ) (k : ℕ) : Type 0 where
  i : ℕ
  before : i < k
  class : class_at rows k ≡ class_at rows i
  id : number_at rows k 1 ≡ number_at rows i 1

module _ (rows : List ℤ) (k : ℕ) where
  abbrev holds : ℕ → Bool
  holds = is_row_of rows (class_at rows k) (number_at rows k 1)

  to-before : is_again rows k ≡ true → Before rows k
  unfolding is_again first_row is_row_of
  to-before e =
      let i = first_such holds 0 k in
      let l : i < k = ltb-true i k e in
      let b = and_both (same_z (class_at rows i) (class_at rows k)) (same_z (number_at rows i 1) (number_at rows k 1)) ((first-is holds 0 k).here (omega arith)) in
      record { i = i; before = l; class = sym (same_z-true (class_at rows i) (class_at rows k) b.0); id = sym (same_z-true (number_at rows i 1) (number_at rows k 1) b.1) }

  from-before : Before rows k → is_again rows k ≡ true
  unfolding is_again first_row is_row_of
  from-before b =
      let l = b.before in
      let e : holds b.i ≡ true = rw (b.class, b.id, same_z-refl (class_at rows b.i), same_z-refl (number_at rows b.i 1)) in
      ⊎_elim (λ (h : first_such holds 0 k < k). lt-ltb (first_such holds 0 k) k h)
      (λ (h : k ≤ first_such holds 0 k). absurd (true≢false (sym e ∙ (first-is holds 0 k).before b.i (omega arith) (omega arith)))) (lt-or-ge (first_such holds 0 k) k)

module _ (file : List ℕ) (table : List ℤ) (m : length (rows_of file) ≤ length table / row_width) where
  abbrev rows : List ℤ
  rows = laid_rows table 0 (rows_of file)

  -- ---- a row of the table has the numbers and the class of the file's row
  module _ (k : ℕ) (h : k < length (rows_of file)) where
    number-laid : (c : ℕ) → c < 12 → number_at rows k c ≡ number_at (cells_of (rows_of file) k) 0 c
    number-laid c l =
        let w = cells-twelve (rows-twelve file) k h in
        let z : 0 * 12 + c ≡ c = omega arith in
        row-held (rows_of file) (rows-twelve file) table m k c h l ∙ (rw z at (number-there (cells_of (rows_of file) k) 0 c (rw w (omega arith)) l))

    class-laid : class_at rows k ≡ class_at (cells_of (rows_of file) k) 0
    unfolding class_at
    class-laid = rw (number-laid 0 (omega arith), number-laid 2 (omega arith))

  -- ---- what is met again in the table is met again in the text
  to-text : (l : ℕ) → RowAgain file rows (length (rows_of file)) l → RowTwice (rows_of file) l
  to-text l x =
      let h = x.there in
      let b = to-before rows x.k x.again in
      let s = b.before in
      let g : b.i < length (rows_of file) = omega arith in
      record {
        i = b.i;
        j = x.k;
        before = s;
        there = h;
        class = sym (class-laid x.k h) ∙ b.class ∙ class-laid b.i g;
        id = sym (number-laid x.k h 1 (omega arith)) ∙ b.id ∙ number-laid b.i g 1 (omega arith);
        here = x.here;
      }

  from-text : (l : ℕ) → RowTwice (rows_of file) l → RowAgain file rows (length (rows_of file)) l
  from-text l x =
      let h = x.there in
      let s = x.before in
      let g : x.i < length (rows_of file) = omega arith in
      record {
        k = x.j;
        there = h;
        again =
            from-before rows x.j
            (record {
              i = x.i;
              before = s;
              class = class-laid x.j h ∙ x.class ∙ sym (class-laid x.i g);
              id = number-laid x.j h 1 (omega arith) ∙ x.id ∙ sym (number-laid x.i g 1 (omega arith));
            });
        here = x.here;
      }

  -- ---- DUPLICATE: the table's answer is the text's, where all rows have room
  pub duplicate-laid : duplicate_line file rows (length (rows_of file)) ≡ duplicate_of file
  duplicate-laid = first-unique (λ l x. to l x) (λ l x. from l x) (duplicate-is file rows (length (rows_of file)) (omega arith)) (duplicate-of-is file)
    where
      to : (l : ℕ) → Duplicate file rows (length (rows_of file)) l → Twice file l
      to l (by-table r) = by_row (to-text l r)
      to l (by-words w) = by_word w

      from : (l : ℕ) → Twice file l → Duplicate file rows (length (rows_of file)) l
      from l (by_row r) = by-table (from-text l r)
      from l (by_word w) = by-words w
