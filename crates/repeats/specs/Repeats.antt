-- The first line of a file at which something is met again, from its text alone. "DUPLICATE: an ID, type, extension name or definition key met again
-- in its class".
use Rattle.std.specs.Prelude.{ℕ, Bool, cond, List, [], ◌∷◌, ℤ}
use Rattle.file.specs.Rows.{Placed, rows_of}
use Rattle.tables.specs.Tables.{number_at, class_at, is_row_of}
use Rattle.duplicates.specs.Words.{words_of, earlier, again_line}

-- ---- "IDs are unique per class": is this row of a class, with an ID? A row's twelve numbers are a table of one row
unfoldable pub is_row_like : ℤ → ℤ → Placed → Bool
is_row_like class id r = is_row_of r.cells class id 0

-- ---- The line of the first of these rows that is; 0 if none is
unfoldable pub next_row : ℤ → ℤ → List Placed → ℕ
next_row class id [] = 0
next_row class id (r ∷ rs) = cond (is_row_like class id r) r.line (next_row class id rs)

-- ---- "an ID, type .. met again in its class": the first line of a row whose class and ID an earlier row has; 0 if there is none
unfoldable pub rows_again : List Placed → ℕ
rows_again [] = 0
rows_again (r ∷ rs) = earlier (next_row (class_at r.cells 0) (number_at r.cells 0 1) rs) (rows_again rs)

-- ---- DUPLICATE "at the first line concerned": of the first row that repeats an ID or type, and of the first word met again, the earlier
unfoldable pub duplicate_of : List ℕ → ℕ
duplicate_of file = earlier (rows_again (rows_of file)) (again_line (words_of file))
