-- `rows::cut_row` meets its contract: what LINE refuses is no row, and no comment is one. Assumes nothing.
use borrow.Author.Tests.{not-true, not-false}
use mathlib.Core.Path.{refl}
use Rattle.rows.specs.Placed.{placed_row}
use Rattle.rows.proofs.CutRows.{cut_later, row-unclean, row-past, row-long, row_cut}
use Rattle.rows.proofs.cut_row.Goals as goal

pub returns-then-not-line : goal.returns-then-not-line
unfolding placed_row
returns-then-not-line c = row-unclean _ _ _ c.cut_line-line.ensures _ _ _ _ refl refl (not-true _ c.if-not-line.true)

pub returns-then-text-stop : goal.returns-then-text-stop
unfolding placed_row
returns-then-text-stop c = row-past _ _ _ c.cut_line-line.ensures _ _ _ _ refl refl c.if-text-stop.true

pub overflow_sub-stop : goal.overflow_sub-stop
overflow_sub-stop c = cut_later _ _ _ c.cut_line-line.ensures

pub returns-then-stop-at-gt1024 : goal.returns-then-stop-at-gt1024
unfolding placed_row
returns-then-stop-at-gt1024 c = row-long _ _ _ c.cut_line-line.ensures _ _ _ _ refl c.if-text-stop.false refl c.if-stop-at-gt1024.true

pub slice_bounds-read_row-count : goal.slice_bounds-read_row-count
slice_bounds-read_row-count c = cut_later _ _ _ c.cut_line-line.ensures

pub slice_bounds-read_row-start : goal.slice_bounds-read_row-start
slice_bounds-read_row-start c = cut_later _ _ _ c.cut_line-line.ensures

pub returns : goal.returns
unfolding placed_row
returns c = row_cut _ _ _ c.cut_line-line.ensures _ _ _ _ refl c.if-text-stop.false c.read_row.ensures (not-false _ c.if-not-line.false) c.if-stop-at-gt1024.false
