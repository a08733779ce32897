use Prim.Native.Nat.{◌-◌}
use mathlib.Core.Path.{sym, ◌∙◌}
use native.Mathlib.Omega.{arith}
use Rattle.text.proofs.Cut.{LineAt, line-at}
use Rattle.definitions.specs.Definitions.{site_definitions}
use Rattle.definitions.proofs.Seeking.{fault-start, fault-end, fault-here, fault-again, fault-turn, rest-is}
use Rattle.definitions.proofs.site_fault.Goals.{After-next_line-line}
use Rattle.definitions.proofs.site_fault.Goals as goal

-- the line that starts here
here : (c : After-next_line-line) → LineAt c.args.site.now c.loop-at.at c.next_line-line.result
here c = line-at _ _ _ c.next_line-line.ensures (omega arith)

pub loop-at-init : goal.loop-at-init
loop-at-init c = fault-start _

pub slice_bounds-site_line-count : goal.slice_bounds-site_line-count
slice_bounds-site_line-count c = (here c).ordered

pub slice_bounds-site_line-start : goal.slice_bounds-site_line-start
slice_bounds-site_line-start c = (here c).ordered

pub slice_bounds-site_line-end : goal.slice_bounds-site_line-end
slice_bounds-site_line-end c = (here c).within

pub returns-then-is_fault : goal.returns-then-is_fault
returns-then-is_fault c = fault-here _ _ _ (here (goal.at.returns-then-is_fault c).After-next_line-line) _ c.site_line-found.ensures c.loop-at.invariant (sym c.is_fault.ensures ∙ c.if-is_fault.true)

pub slice_bounds-repeats-count : goal.slice_bounds-repeats-count
slice_bounds-repeats-count c = (here (goal.at.slice_bounds-repeats-count c).After-next_line-line).ordered

pub slice_bounds-repeats-start : goal.slice_bounds-repeats-start
slice_bounds-repeats-start c = (here (goal.at.slice_bounds-repeats-start c).After-next_line-line).ordered

pub slice_bounds-repeats-end : goal.slice_bounds-repeats-end
slice_bounds-repeats-end c = (here (goal.at.slice_bounds-repeats-end c).After-next_line-line).within

pub slice_bounds-repeats-count-in-loop-at : goal.slice_bounds-repeats-count-in-loop-at
slice_bounds-repeats-count-in-loop-at c = (here (goal.at.slice_bounds-repeats-count-in-loop-at c).After-next_line-line).inside

pub slice_bounds-repeats-start-in-loop-at : goal.slice_bounds-repeats-start-in-loop-at
slice_bounds-repeats-start-in-loop-at c = (here (goal.at.slice_bounds-repeats-start-in-loop-at c).After-next_line-line).inside

pub returns-then-repeats : goal.returns-then-repeats
unfolding site_definitions
returns-then-repeats c = fault-again _ _ _ (here (goal.at.returns-then-repeats c).After-next_line-line) _ c.site_line-found.ensures c.loop-at.invariant (sym c.is_fault.ensures ∙ c.if-is_fault.false) (rw (rest-is _ _) at (sym c.repeats.ensures ∙ c.if-repeats.true))

pub loop-at-smaller : goal.loop-at-smaller
unfolding site_definitions
loop-at-smaller c = omega (arith, (here (goal.at.loop-at-smaller c).After-next_line-line).further, (here (goal.at.loop-at-smaller c).After-next_line-line).inside)

pub loop-at-preserved : goal.loop-at-preserved
unfolding site_definitions
loop-at-preserved c = fault-turn _ _ _ (here (goal.at.loop-at-preserved c).After-next_line-line) _ c.site_line-found.ensures c.loop-at.invariant (sym c.is_fault.ensures ∙ c.if-is_fault.false) (rw (rest-is _ _) at (sym c.repeats.ensures ∙ c.if-repeats.false))

pub returns : goal.returns
returns c = fault-end _ _ c.loop-at-test.false c.loop-at.invariant
