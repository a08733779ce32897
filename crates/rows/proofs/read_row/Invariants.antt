-- `rows::read_row` meets its contract: the cells read so far, and what is left of the columns and the line, give the whole row. Assumes nothing.
use mathlib.Core.Path.{◌≡◌}
use lib.ListN.{length}
use Rattle.columns.specs.Columns.{columns_of}
use Rattle.rows.proofs.Rows.{Reading}
use Rattle.rows.proofs.read_row.Given as goal

abbrev pub invariant-loop-j : goal.invariant-loop-j
invariant-loop-j l = (l.count ≡ length (columns_of l.edition l.form)) × Reading l.form l.line (columns_of l.edition l.form) l.cells l.at l.w l.j
