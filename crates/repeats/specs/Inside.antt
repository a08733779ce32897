-- What the inner functions answer. Nothing here needs to be believed: laws lead from these to the definitions of the other files.
use Rattle.std.specs.Prelude.{ℕ, Bool, cond, ◌&&◌, List, [], ◌∷◌, ltb, ℤ, get_or}
use Rattle.places.specs.declared.Stepped.{Stepped}
use Rattle.file.specs.Whole.{is_row}
use Rattle.file.specs.Rows.{Placed, rows_of}
use Rattle.tables.specs.Tables.{number_at, class_at, is_row_of}
use Rattle.again.specs.Noting.{noted, is_open, key_of}
use Rattle.repeats.specs.Repeats.{is_row_like, next_row}

-- is what a line gave a row of a class, with an ID?
unfoldable pub gives_row : ℤ → ℤ → Stepped → Bool
gives_row class id s = is_row s.found && is_row_of s.cells class id 0

-- the row that a line gave, if it gave one
unfoldable pub row_given : Stepped → List Placed
row_given s = cond (is_row s.found) (record { line = s.line; cells = s.cells } ∷ []) []

-- ---- Rows as things that lines give: when two are the same, the number that a row is kept by, and whether its class is open
abbrev pub no_row : Placed
no_row = record { line = 0; cells = [] }

abbrev pub row_class : Placed → ℤ
row_class r = class_at r.cells 0

abbrev pub row_id : Placed → ℤ
row_id r = number_at r.cells 0 1

abbrev pub same_row : Placed → Placed → Bool
same_row r s = is_row_like (row_class r) (row_id r) s

abbrev pub row_number : Placed → ℕ
row_number r = key_of (row_class r) (row_id r)

abbrev pub row_open : List ℤ → Placed → Bool
row_open most r = is_open most (row_class r)

-- does a row of its class with its ID stand before it?
abbrev pub stood_before : List ℕ → Placed → Bool
stood_before file r = ltb (next_row (row_class r) (row_id r) (rows_of file)) r.line

-- ---- What is noted of the rows that lines give
unfoldable pub noted_by : List ℤ → List Placed → List ℤ
noted_by most [] = most
noted_by most (r ∷ rs) = noted most (row_class r) (row_id r)

-- the class and the ID of each row of a file
abbrev pub class_no : List Placed → ℕ → ℤ
class_no rs j = row_class (get_or rs j no_row)

abbrev pub id_no : List Placed → ℕ → ℤ
id_no rs j = row_id (get_or rs j no_row)
