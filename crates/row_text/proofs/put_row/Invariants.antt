-- `row_text::put_row` meets its contract. The loop's invariant: what was written, and what is left, is the row behind its first column. Assumes nothing.
use mathlib.Core.Path.{◌≡◌}
use lib.ListN.{length}
use Rattle.columns.specs.Columns.{columns_of}
use Rattle.row_text.proofs.Writing.{Columns}
use Rattle.row_text.proofs.put_row.Given as goal

abbrev pub invariant-loop-j : goal.invariant-loop-j
invariant-loop-j l = (l.count ≡ length (columns_of l.edition l.form)) × Columns (columns_of l.edition l.form) l.row l.initial.out l.initial.place l.out l.place l.w l.j
