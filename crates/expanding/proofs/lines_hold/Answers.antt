use native.Mathlib.Omega.{arith}
use Rattle.text.proofs.Cut.{line-at}
use Rattle.expanding.proofs.Holding.{holding-start, holding-end, holding-few, holding-on}
use Rattle.expanding.proofs.lines_hold.Goals.{After-next_line-line}
use Rattle.expanding.proofs.lines_hold.Goals as goal

pub loop-at-init : goal.loop-at-init
loop-at-init c = holding-start _

pub slice_bounds-line_holds-count : goal.slice_bounds-line_holds-count
slice_bounds-line_holds-count c = (line-at _ _ _ c.next_line-line.ensures (omega arith)).ordered

pub slice_bounds-line_holds-start : goal.slice_bounds-line_holds-start
slice_bounds-line_holds-start c = (line-at _ _ _ c.next_line-line.ensures (omega arith)).ordered

pub slice_bounds-line_holds-end : goal.slice_bounds-line_holds-end
slice_bounds-line_holds-end c = (line-at _ _ _ c.next_line-line.ensures (omega arith)).within

pub overflow_add-n : goal.overflow_add-n
overflow_add-n c = omega (arith, holding-few c.loop-at.invariant (line-at _ _ _ c.next_line-line.ensures (omega arith)) _ c.line_holds-n.ensures, (line-at _ _ _ c.next_line-line.ensures (omega arith)).inside)

pub loop-at-smaller : goal.loop-at-smaller
loop-at-smaller c = let l = (line-at _ _ _ c.next_line-line.ensures (omega arith)) in omega (arith, l.further, l.inside)

pub loop-at-preserved : goal.loop-at-preserved
loop-at-preserved c = holding-on c.loop-at.invariant (line-at _ _ _ c.next_line-line.ensures (omega arith)) _ c.line_holds-n.ensures

pub returns : goal.returns
returns c = holding-end c.loop-at.invariant (omega arith)
