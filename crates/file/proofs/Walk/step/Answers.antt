-- `file::Walk::step` meets its contract: the line is cut off and asked where the file stands. Assumes nothing.
use native.Mathlib.Omega.{arith}
use Rattle.text.proofs.Cut.{line-at}
use Rattle.file.proofs.Walk.step.Goals as goal

pub slice_bounds-line-count : goal.slice_bounds-line-count
slice_bounds-line-count c = (line-at _ _ _ c.next_line-cut.ensures (omega arith)).ordered

pub slice_bounds-line-start : goal.slice_bounds-line-start
slice_bounds-line-start c = (line-at _ _ _ c.next_line-cut.ensures (omega arith)).ordered

pub slice_bounds-line-end : goal.slice_bounds-line-end
slice_bounds-line-end c = (line-at _ _ _ c.next_line-cut.ensures (omega arith)).within
