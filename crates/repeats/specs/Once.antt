-- What it means that something is met again in a text. `duplicate-of-is` shows that `duplicate_of` is the first line where it is.
use Rattle.std.specs.Prelude.{ℕ, ◌<◌, List, ◌≡◌, length}
use Rattle.file.specs.Rows.{Placed, rows_of, line_of}
use Rattle.tables.specs.Tables.{number_at, class_at}
use Rattle.duplicates.specs.Words.{words_of}
use Rattle.duplicates.specs.Again.{WordAgain}
use Rattle.file_tables.specs.Tables.{cells_of}

-- ---- "met again in its class": row j, on this line, is of the class of row i before it, and has its ID or type
pub record RowTwice (rs : List Placed) (line : ℕ) : Type 0 where
  pub i : ℕ
  pub j : ℕ
  pub before : i < j
  pub there : j < length rs
  pub class : class_at (cells_of rs j) 0 ≡ class_at (cells_of rs i) 0
  pub id : number_at (cells_of rs j) 0 1 ≡ number_at (cells_of rs i) 0 1
  pub here : line ≡ line_of rs j

-- ---- DUPLICATE
pub data Twice (file : List ℕ) (line : ℕ) : Type 0 where
  by_row : RowTwice (rows_of file) line → Twice file line
  by_word : WordAgain (words_of file) line → Twice file line
