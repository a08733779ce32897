use Prim.Native.Nat.{◌<◌}
use native.Mathlib.Omega.{arith}
use Rattle.text.proofs.Cut.{LineAt, line-at}
use Rattle.file_rows.proofs.show_all.Goals as goal

pub slice_bounds-counts_of-count : goal.slice_bounds-counts_of-count
slice_bounds-counts_of-count c =
    let the-line : LineAt c.args.input.now c.loop-at.at c.next_line-line.result = line-at _ _ _ c.next_line-line.ensures c.loop-at-test.true in
    the-line.ordered

pub slice_bounds-counts_of-start : goal.slice_bounds-counts_of-start
slice_bounds-counts_of-start c =
    let the-line : LineAt c.args.input.now c.loop-at.at c.next_line-line.result = line-at _ _ _ c.next_line-line.ensures c.loop-at-test.true in
    the-line.ordered

pub slice_bounds-counts_of-end : goal.slice_bounds-counts_of-end
slice_bounds-counts_of-end c =
    let the-line : LineAt c.args.input.now c.loop-at.at c.next_line-line.result = line-at _ _ _ c.next_line-line.ensures c.loop-at-test.true in
    the-line.within

pub stop_of-middle-requires : goal.stop_of-middle-requires
stop_of-middle-requires c =
    let the-line : LineAt c.args.input.now c.loop-at.at c.next_line-line.result = line-at _ _ _ c.next_line-line.ensures c.loop-at-test.true in
    the-line.inside

pub stop_of-end-requires : goal.stop_of-end-requires
stop_of-end-requires c = c.stop_of-middle.ensures.1

pub overflow_add-number : goal.overflow_add-number
overflow_add-number c = omega arith

pub slice_bounds-show-count : goal.slice_bounds-show-count
slice_bounds-show-count c = c.stop_of-middle.ensures.0

pub slice_bounds-show-start : goal.slice_bounds-show-start
slice_bounds-show-start c = c.stop_of-middle.ensures.0

pub slice_bounds-show-end : goal.slice_bounds-show-end
slice_bounds-show-end c = c.stop_of-middle.ensures.1

pub slice_bounds-show-count-in-loop-at : goal.slice_bounds-show-count-in-loop-at
slice_bounds-show-count-in-loop-at c = c.stop_of-end.ensures.0

pub loop-at-smaller : goal.loop-at-smaller
loop-at-smaller c =
    let the-line : LineAt c.args.input.now c.loop-at.at c.next_line-line.result = line-at _ _ _ c.next_line-line.ensures c.loop-at-test.true in
    let further : c.loop-at.at < c.stop_of-end.result = let l = the-line in
    omega (arith, c.stop_of-middle.ensures.0, c.stop_of-end.ensures.0) in
    omega (arith, further)

pub loop-at-preserved : goal.loop-at-preserved
loop-at-preserved c =
    let the-line : LineAt c.args.input.now c.loop-at.at c.next_line-line.result = line-at _ _ _ c.next_line-line.ensures c.loop-at-test.true in
    let further : c.loop-at.at < c.stop_of-end.result = let l = the-line in
    omega (arith, c.stop_of-middle.ensures.0, c.stop_of-end.ensures.0) in
    omega (arith, further)
