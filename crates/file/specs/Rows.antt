-- The rows of a file. "Rows, in file order".
use Rattle.std.specs.Prelude.{ℕ, zero, suc, ◌*◌, ◌/◌, false, cond, List, [], ◌∷◌, ◌≡◌, ltb, ℤ, length, get_or}
use Rattle.std.proofs.lemmas.List.Edits.{sets}
use Rattle.text.specs.Lines.{lines_of}
use Rattle.columns.specs.Rows.{row_width}
use Rattle.places.specs.Places.{fresh}
use Rattle.places.specs.declared.State.{State}
use Rattle.places.specs.declared.Stepped.{Stepped}
use Rattle.file.specs.Whole.{Verdict, ended, stopped, verdict_of, is_row, gathered}
use Rattle.file.specs.Outcome.{Scanned, File, Fault}

-- ---- A row with its line
pub record Placed : Type 0 where
  pub line : ℕ
  pub cells : List ℤ

unfoldable pub row_at : ℕ → List ℕ → Stepped → List Placed
row_at n l r = cond (is_row r.found) (record { line = r.line; cells = r.cells } ∷ []) []

abbrev pub rows_from : State → ℕ → List (List ℕ) → List Placed
rows_from st n ls = gathered row_at st n ls

unfoldable pub rows_of : List ℕ → List Placed
rows_of file = rows_from fresh 1 (lines_of file)

-- the line of row k, from 0; 0 if there is none
unfoldable pub line_of : List Placed → ℕ → ℕ
line_of [] k = 0
line_of (r ∷ rs) zero = r.line
line_of (r ∷ rs) (suc k) = line_of rs k

-- ---- Rows laid over a lent table from row k on, where there is room
unfoldable pub laid_row : List ℤ → ℕ → List ℤ → List ℤ
laid_row table k cells = cond (ltb k (length table / row_width)) (sets table (k * row_width) cells) table

unfoldable pub laid_rows : List ℤ → ℕ → List Placed → List ℤ
laid_rows table k [] = table
laid_rows table k (r ∷ rs) = laid_rows (laid_row table k r.cells) (suc k) rs

-- ---- What reading all lines answers: the edition, how many rows and samples there are, and whether `[DEFINITIONS]` stands in the file; or the
-- first fault and its line
unfoldable pub answer_of : Verdict → ℕ → Scanned
answer_of (ended st) rows = File st.edition rows st.samples (get_or st.seen 2 false)
answer_of (stopped fault n) rows = Fault fault n

unfoldable pub scanned_of : List ℕ → Scanned
scanned_of file = answer_of (verdict_of file) (length (rows_of file))

-- and what it leaves in the lent table: two things that determine all that reading answers and writes
pub record Scanning (file : List ℕ) (r : Scanned) (table table' : List ℤ) : Type 0 where
  pub answer : r ≡ scanned_of file
  pub rows : table' ≡ laid_rows table 0 (rows_of file)
