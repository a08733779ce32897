-- Rows as a target says them. "rows in file order, single spaces, LF"; "IDs stay".
use Rattle.unit.specs.declared.RasterCount.{RasterCount}
use Rattle.std.specs.Prelude.{ℕ, zero, suc, min, Bool, cond, List, [], ◌∷◌, ◌++◌, ltb, ℤ, pos, drop, set, None, Option, Some}
use Rattle.signed.specs.Signed.{largest}
use Rattle.unit.specs.Time.{on_raster}
use Rattle.shape.specs.declared.Edition.{Edition}
use Rattle.shape.specs.declared.Edition.TheVariants.{V13, V14}
use Rattle.columns.specs.Columns.{columns_of, form_number}
use Rattle.columns.specs.Rows.{row_width}
use Rattle.columns.specs.declared.Form.{Form}
use Rattle.row_text.specs.Printed.{row_text}
use Rattle.tables.specs.Tables.{first_such, number_at}
use Rattle.blocks.specs.Blocks.{is_block}
use Rattle.sayable.specs.Sayable.{is_kind, nanos_at}
use Rattle.durations.specs.Durations.{delay_number}

-- m numbers of row k from number c on, and all twelve
unfoldable pub numbers_from : List ℤ → ℕ → ℕ → ℕ → List ℤ
numbers_from rows k c zero = []
numbers_from rows k c (suc m) = number_at rows k c ∷ numbers_from rows k (suc c) m

unfoldable pub numbers_at : List ℤ → ℕ → List ℤ
numbers_at rows k = numbers_from rows k 0 row_width

-- ---- "duration (1.3: delay ID)": what a target says for the duration of block k, of n rows
unfoldable pub steps_of : Option RasterCount → ℕ
steps_of (Some count) = count.0
steps_of None = 0

unfoldable pub duration_of : Edition → ℕ → List ℤ → ℕ → ℕ → ℕ
duration_of V13 raster rows n k = delay_number rows n k
duration_of V14 raster rows n k = steps_of (on_raster (nanos_at rows k) raster)

unfoldable pub duration_number : Edition → ℕ → List ℤ → ℕ → ℕ → ℤ
duration_number target raster rows n k = pos (min (duration_of target raster rows n k) largest)

-- ---- Row k as the target says it
unfoldable pub said_row : Edition → ℕ → List ℤ → ℕ → ℕ → List ℤ
said_row target raster rows n k = cond (is_block rows k) (set (numbers_at rows k) 2 (duration_number target raster rows n k)) (numbers_at rows k)

-- ---- The lines of the rows of a form, each ended by LF
abbrev pub is_of_form : Form → List ℤ → ℕ → Bool
is_of_form form rows k = is_kind rows k (pos (form_number form))

unfoldable pub line_text : Edition → Form → List ℤ → List ℕ
line_text target form row = row_text (columns_of target form) (drop 1 row) ++ (10 ∷ [])

unfoldable pub row_line : Edition → ℕ → Form → List ℤ → ℕ → ℕ → List ℕ
row_line target raster form rows n k = cond (is_of_form form rows k) (line_text target form (said_row target raster rows n k)) []

-- lines one after another: of m rows from row k on, where `line` says what a row gives
unfoldable pub lines_text : (ℕ → List ℕ) → ℕ → ℕ → List ℕ
lines_text line k zero = []
lines_text line k (suc m) = line k ++ lines_text line (suc k) m

abbrev pub rows_text : Edition → ℕ → Form → List ℤ → ℕ → List ℕ
rows_text target raster form rows n = lines_text (row_line target raster form rows n) 0 n

-- ---- "empty ones left out .. one blank line after each section": whether there is a row of a kind among n, and a section with its head, its lines
-- and a blank line; nothing where it has no rows
unfoldable pub has_kind : ℤ → List ℤ → ℕ → Bool
has_kind kind rows n = ltb (first_such (λ k. is_kind rows k kind) 0 n) n

abbrev pub section_of : Bool → List ℕ → List ℕ → List ℕ
section_of some head lines = cond some (head ++ (lines ++ (10 ∷ []))) []
