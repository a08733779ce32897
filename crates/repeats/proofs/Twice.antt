-- The first line at which something is met again in a text is exactly that. Assumes nothing.
use Prim.Native.Nat.{ℕ, zero, suc}
use mathlib.Core.Bool.{true}
use mathlib.Core.List.{List, [], ◌∷◌}
use mathlib.Core.Logic.{◌⊎◌, inl, inr}
use mathlib.Core.Path.{◌≡◌, refl}
use native.Mathlib.Omega.{arith}
use lib.IntN.{ℤ}
use lib.ListN.{get_or}
use Rattle.text.proofs.Cases.{and_both}
use Rattle.signed.specs.Signed.{same_z}
use Rattle.signed.proofs.Sign.{same_z-refl, same_z-true}
use Rattle.file.specs.Rows.{Placed, rows_of, line_of}
use Rattle.tables.specs.Tables.{number_at, class_at, is_row_of}
use Rattle.duplicates.specs.Words.{words_of, earlier, again_line}
use Rattle.duplicates.specs.Again.{FirstLine, WordAgain}
use Rattle.duplicates.proofs.Rising.{rows-rise}
use Rattle.duplicates.specs.Inside.{MetAgain, row_line}
use Rattle.duplicates.proofs.First.{first_either, first-as, next_such, again_such, again-first}
use Rattle.duplicates.proofs.Again.{again-is}
use Rattle.file_tables.specs.Tables.{cells_of}
use Rattle.repeats.specs.Repeats.{is_row_like, next_row, rows_again, duplicate_of}
use Rattle.repeats.specs.Inside.{no_row, same_row}
use Rattle.repeats.specs.Once.{RowTwice, Twice, by_row, by_word}

-- ---- the earlier of the rows' line and the words'
pub duplicate-first : (file : List ℕ) (row word : ℕ) → row ≡ rows_again (rows_of file) → word ≡ again_line (words_of file) → earlier row word ≡ duplicate_of file
unfolding duplicate_of
duplicate-first file row word p q = rw (p, q)

-- ---- two rows are alike where their classes and IDs are the same
module _ (class id : ℤ) (r : Placed) where
  pub like_is : is_row_like class id r ≡ true → (class_at r.cells 0 ≡ class) × (number_at r.cells 0 1 ≡ id)
  unfolding is_row_like is_row_of
  like_is e =
      let b = and_both (same_z (class_at r.cells 0) class) (same_z (number_at r.cells 0 1) id) e in
      (same_z-true (class_at r.cells 0) class b.0, same_z-true (number_at r.cells 0 1) id b.1)

  pub is-like : class_at r.cells 0 ≡ class → number_at r.cells 0 1 ≡ id → is_row_like class id r ≡ true
  unfolding is_row_like is_row_of
  is-like p q = rw (p, q, same_z-refl class, same_z-refl id)

-- ---- rows that are met again, as the laws for all things say it
pub next-such : (class id : ℤ) (rs : List Placed) → next_such row_line (is_row_like class id) rs ≡ next_row class id rs
unfolding next_such next_row
next-such class id [] = refl
next-such class id (r ∷ rs) = rw (next-such class id rs)

pub again-such : (rs : List Placed) → again_such row_line same_row rs ≡ rows_again rs
unfolding again_such rows_again
again-such [] = refl
again-such (r ∷ rs) = rw (next-such (class_at r.cells 0) (number_at r.cells 0 1) rs, again-such rs)

line-no : (rs : List Placed) (k : ℕ) → (get_or rs k no_row).line ≡ line_of rs k
unfolding line_of
line-no [] k = refl
line-no (r ∷ rs) zero = refl
line-no (r ∷ rs) (suc k) = line-no rs k

cells-no : (rs : List Placed) (k : ℕ) → (get_or rs k no_row).cells ≡ cells_of rs k
unfolding cells_of
cells-no [] k = refl
cells-no (r ∷ rs) zero = refl
cells-no (r ∷ rs) (suc k) = cells-no rs k

module _ (rs : List Placed) where
  to_row : (l : ℕ) → MetAgain row_line no_row same_row rs l → RowTwice rs l
  to_row l g =
      let s = like_is _ _ (get_or rs g.j no_row) g.alike in
      let p = cells-no rs g.i in
      let q = cells-no rs g.j in
      record {
        i = g.i;
        j = g.j;
        before = g.before;
        there = g.there;
        class = rw (p, q) at s.0;
        id = rw (p, q) at s.1;
        here = rw (line-no rs g.j) at g.here;
      }

  from_row : (l : ℕ) → RowTwice rs l → MetAgain row_line no_row same_row rs l
  from_row l g =
      let p = cells-no rs g.i in
      let q = cells-no rs g.j in
      record {
        i = g.i;
        j = g.j;
        before = g.before;
        there = g.there;
        alike = is-like _ _ (get_or rs g.j no_row) (rw (p, q) g.class) (rw (p, q) g.id);
        here = rw (line-no rs g.j) g.here;
      }

-- ---- an ID or type "met again in its class": `rows_again` is the first line of a file where one is, 0 if none is
pub row-again-is : (file : List ℕ) → FirstLine (RowTwice (rows_of file)) (rows_again (rows_of file))
row-again-is file = rw (again-such (rows_of file)) at (first-as (to_row (rows_of file)) (from_row (rows_of file)) (again-first row_line no_row same_row (omega arith) (rows-rise file)))

-- ---- DUPLICATE: `duplicate_of` is the first line of a file where an ID, a type, a name or a key is met again, 0 if none is
pub duplicate-of-is : (file : List ℕ) → FirstLine (Twice file) (duplicate_of file)
unfolding duplicate_of
duplicate-of-is file = first-as (λ l x. to l x) (λ l x. from l x) (first_either (row-again-is file) (again-is file))
  where
    to : (l : ℕ) → RowTwice (rows_of file) l ⊎ WordAgain (words_of file) l → Twice file l
    to l (inl r) = by_row r
    to l (inr w) = by_word w

    from : (l : ℕ) → Twice file l → RowTwice (rows_of file) l ⊎ WordAgain (words_of file) l
    from l (by_row r) = inl r
    from l (by_word w) = inr w
