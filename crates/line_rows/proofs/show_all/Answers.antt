use native.Mathlib.Omega.{arith}
use Rattle.text.proofs.Cut.{line-at}
use Rattle.line_rows.proofs.show_all.Goals.{After-next_line-line}
use Rattle.line_rows.proofs.show_all.Goals as goal

pub loop-at-init : goal.loop-at-init
loop-at-init c = tt

pub next_line-line-requires : goal.next_line-line-requires
next_line-line-requires c = tt

pub slice_bounds-show-count : goal.slice_bounds-show-count
slice_bounds-show-count c = (line-at _ _ _ c.next_line-line.ensures c.loop-at-test.true).ordered

pub slice_bounds-show-start : goal.slice_bounds-show-start
slice_bounds-show-start c = (line-at _ _ _ c.next_line-line.ensures c.loop-at-test.true).ordered

pub slice_bounds-show-end : goal.slice_bounds-show-end
slice_bounds-show-end c = (line-at _ _ _ c.next_line-line.ensures c.loop-at-test.true).within

pub show-requires : goal.show-requires
show-requires c = tt

pub loop-at-smaller : goal.loop-at-smaller
loop-at-smaller c = let l = (line-at _ _ _ c.next_line-line.ensures c.loop-at-test.true) in omega arith

pub loop-at-preserved : goal.loop-at-preserved
loop-at-preserved c = tt

pub returns : goal.returns
returns c = tt
