-- A line read as a row where it stands in a text: one that LINE refuses gives none.
use Rattle.std.specs.Prelude.{ℕ, cond, List, drop, None, Option, ℤ}
use Rattle.text.specs.Lines.{bare_of, line_at}
use Rattle.text.specs.Marks.{breaks_line}
use Rattle.fields.specs.Fields.{fields_of}
use Rattle.shape.specs.declared.Edition.{Edition}
use Rattle.columns.specs.Columns.{columns_of}
use Rattle.columns.specs.declared.Form.{Form}
use Rattle.rows.specs.Cells.{row_from, row_is}
use Rattle.rows.specs.declared.RowLine.{RowLine}

-- a line that may stand in a file, read as a row
unfoldable pub allowed_row : Edition → Form → List ℕ → Option (List ℤ)
allowed_row edition form line = row_is form (cond (breaks_line line) None (row_from (columns_of edition form) (fields_of line)))

-- a row, and where the line behind it starts
unfoldable pub placed_row : Option (List ℤ) → ℕ → RowLine
placed_row row next = record { row = row; next = next }

-- the line of a text that starts at a place
unfoldable pub line_row_of : Edition → Form → List ℕ → ℕ → RowLine
line_row_of edition form text at = placed_row (allowed_row edition form (bare_of (drop at text))) (line_at text at).next
