use Prim.Native.Nat.{◌-◌}
use mathlib.Core.Path.{sym, ◌∙◌}
use native.Mathlib.Omega.{arith}
use Rattle.text.proofs.Cut.{LineAt, line-at, WholeAt, whole-at}
use Rattle.definitions.proofs.Placing.{site-place-start, site-place-line, site-place-end, place-fault, place-hit, place-miss}
use Rattle.definitions.proofs.site_place.Goals.{After-next_line-line}
use Rattle.definitions.proofs.site_place.Goals as goal

-- the line that starts here, without its end and with it
here : (c : After-next_line-line) → LineAt c.args.site.now c.loop-at.at c.next_line-line.result
here c = line-at _ _ _ c.next_line-line.ensures (omega arith)

whole : (c : After-next_line-line) → WholeAt c.args.site.now c.loop-at.at c.next_line-line.result
whole c = whole-at _ _ _ c.next_line-line.ensures (omega arith)

pub loop-at-init : goal.loop-at-init
loop-at-init c = site-place-start _ _

pub slice_bounds-site_line-count : goal.slice_bounds-site_line-count
slice_bounds-site_line-count c = (here c).ordered

pub slice_bounds-site_line-start : goal.slice_bounds-site_line-start
slice_bounds-site_line-start c = (here c).ordered

pub slice_bounds-site_line-end : goal.slice_bounds-site_line-end
slice_bounds-site_line-end c = (here c).within

pub returns-then-is_fault : goal.returns-then-is_fault
returns-then-is_fault c = place-fault _ _ _ _ _ _ (site-place-line _ (here (goal.at.returns-then-is_fault c).After-next_line-line) (whole (goal.at.returns-then-is_fault c).After-next_line-line) c.site_line-found.ensures c.loop-at.invariant) (sym c.is_fault.ensures ∙ c.if-is_fault.true)

pub slice_bounds-defines-count : goal.slice_bounds-defines-count
slice_bounds-defines-count c = (here (goal.at.slice_bounds-defines-count c).After-next_line-line).ordered

pub slice_bounds-defines-start : goal.slice_bounds-defines-start
slice_bounds-defines-start c = (here (goal.at.slice_bounds-defines-start c).After-next_line-line).ordered

pub slice_bounds-defines-end : goal.slice_bounds-defines-end
slice_bounds-defines-end c = (here (goal.at.slice_bounds-defines-end c).After-next_line-line).within

pub value_place-requires : goal.value_place-requires
value_place-requires c = record { at_le_stop = (here (goal.at.value_place-requires c).After-next_line-line).ordered; stop_in_bounds = (here (goal.at.value_place-requires c).After-next_line-line).within }

pub returns-then-defines : goal.returns-then-defines
returns-then-defines c = c.value_place.ensures ∙ place-hit _ _ _ _ _ _ (site-place-line _ (here (goal.at.returns-then-defines c).After-next_line-line) (whole (goal.at.returns-then-defines c).After-next_line-line) c.site_line-found.ensures c.loop-at.invariant) (sym c.is_fault.ensures ∙ c.if-is_fault.false) (sym c.defines.ensures ∙ c.if-defines.true)

pub loop-at-smaller : goal.loop-at-smaller
loop-at-smaller c = omega (arith, (here (goal.at.loop-at-smaller c).After-next_line-line).further, (here (goal.at.loop-at-smaller c).After-next_line-line).inside)

pub loop-at-preserved : goal.loop-at-preserved
loop-at-preserved c = place-miss _ _ _ _ _ _ (site-place-line _ (here (goal.at.loop-at-preserved c).After-next_line-line) (whole (goal.at.loop-at-preserved c).After-next_line-line) c.site_line-found.ensures c.loop-at.invariant) (sym c.is_fault.ensures ∙ c.if-is_fault.false) (sym c.defines.ensures ∙ c.if-defines.false)

pub returns : goal.returns
returns c = site-place-end _ _ _ c.loop-at-test.false c.loop-at.invariant
