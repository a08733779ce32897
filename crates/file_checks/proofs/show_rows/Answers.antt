use native.Mathlib.Omega.{arith}
use Rattle.file_checks.proofs.show_rows.Goals as goal

pub loop-k-init : goal.loop-k-init
loop-k-init c = tt

pub overflow_add-base : goal.overflow_add-base
overflow_add-base c = omega arith

pub offset_bounds-table-base : goal.offset_bounds-table-base
offset_bounds-table-base c = omega arith

pub slice_bounds-show_row-count : goal.slice_bounds-show_row-count
slice_bounds-show_row-count c = omega arith

pub slice_bounds-show_row-start : goal.slice_bounds-show_row-start
slice_bounds-show_row-start c = omega arith

pub slice_bounds-show_row-end : goal.slice_bounds-show_row-end
slice_bounds-show_row-end c = omega arith

pub loop-k-preserved : goal.loop-k-preserved
loop-k-preserved c = tt
