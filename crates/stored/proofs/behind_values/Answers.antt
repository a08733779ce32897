use mathlib.Core.Path.{refl, sym, ◌∙◌}
use native.Mathlib.Omega.{arith}
use Rattle.text.proofs.Cut.{LineAt, line-at, WholeAt, whole-at}
use Rattle.stored.proofs.Stored.{ending-stop, ending-turn, ending-end}
use Rattle.stored.proofs.behind_values.Goals.{After-next_line-line}
use Rattle.stored.proofs.behind_values.Goals as goal

-- the line that starts here
here : (c : After-next_line-line) → LineAt c.args.file.now c.loop-walk.walk.at c.next_line-line.result
here c = line-at _ _ _ c.next_line-line.ensures (omega arith)

whole : (c : After-next_line-line) → WholeAt c.args.file.now c.loop-walk.walk.at c.next_line-line.result
whole c = whole-at _ _ _ c.next_line-line.ensures (omega arith)

pub loop-walk-init : goal.loop-walk-init
loop-walk-init c = record { lines = c.requires; same = refl }

pub slice_bounds-ends_shape-count : goal.slice_bounds-ends_shape-count
slice_bounds-ends_shape-count c = (here c).ordered

pub slice_bounds-ends_shape-start : goal.slice_bounds-ends_shape-start
slice_bounds-ends_shape-start c = (here c).ordered

pub slice_bounds-ends_shape-end : goal.slice_bounds-ends_shape-end
slice_bounds-ends_shape-end c = (here c).within

pub returns-then-ends_shape : goal.returns-then-ends_shape
returns-then-ends_shape c = ending-stop _ _ _ c.loop-walk.invariant _ (here (goal.at.returns-then-ends_shape c).After-next_line-line) (whole (goal.at.returns-then-ends_shape c).After-next_line-line) (sym c.ends_shape.ensures ∙ c.if-ends_shape.true)

pub overflow_add-walk : goal.overflow_add-walk
overflow_add-walk c = omega (arith, c.loop-walk.invariant.lines)

pub loop-walk-smaller : goal.loop-walk-smaller
loop-walk-smaller c = omega (arith, (here (goal.at.loop-walk-smaller c).After-next_line-line).further, (here (goal.at.loop-walk-smaller c).After-next_line-line).inside)

pub loop-walk-preserved : goal.loop-walk-preserved
loop-walk-preserved c = ending-turn _ _ _ c.loop-walk.invariant _ (here (goal.at.loop-walk-preserved c).After-next_line-line) (whole (goal.at.loop-walk-preserved c).After-next_line-line) (sym c.ends_shape.ensures ∙ c.if-ends_shape.false)

pub returns : goal.returns
returns c = ending-end _ _ _ c.loop-walk.invariant c.loop-walk-test.false
