use native.Mathlib.Omega.{arith}
use Rattle.text.proofs.Cut.{line-at}
use Rattle.shapes.proofs.stored_end.Goals.{After-next_line-line}
use Rattle.shapes.proofs.stored_end.Goals as goal

pub slice_bounds-same-count : goal.slice_bounds-same-count
slice_bounds-same-count c = (line-at _ _ _ c.next_line-line.ensures c.loop-at-test.true).ordered

pub slice_bounds-same-start : goal.slice_bounds-same-start
slice_bounds-same-start c = (line-at _ _ _ c.next_line-line.ensures c.loop-at-test.true).ordered

pub slice_bounds-same-end : goal.slice_bounds-same-end
slice_bounds-same-end c = (line-at _ _ _ c.next_line-line.ensures c.loop-at-test.true).within

pub loop-at-smaller : goal.loop-at-smaller
loop-at-smaller c = let l = (line-at _ _ _ c.next_line-line.ensures c.loop-at-test.true) in omega arith

pub loop-at-preserved : goal.loop-at-preserved
loop-at-preserved c = let l = (line-at _ _ _ c.next_line-line.ensures c.loop-at-test.true) in (omega arith, omega arith)
