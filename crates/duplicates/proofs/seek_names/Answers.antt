use Rattle.duplicates.proofs.Passed.{names-pass, names-met, names-turn, sound-start}
use Rattle.file.proofs.Walking.{within-start}
use Rattle.passing.proofs.Reaching.{before-start, before-end}
use Rattle.text.proofs.Cut.{LineAt, line-at, WholeAt, whole-at}
use mathlib.Core.Path.{refl, sym, ◌∙◌}
use native.Mathlib.Omega.{arith}
use Rattle.duplicates.proofs.seek_names.Goals.{After-next_line-line}
use Rattle.duplicates.proofs.seek_names.Goals as goal

-- the line that starts here
here : (c : After-next_line-line) → LineAt c.args.file.now c.loop-at.at c.next_line-line.result
here c = line-at _ _ _ c.next_line-line.ensures (omega arith)

whole : (c : After-next_line-line) → WholeAt c.args.file.now c.loop-at.at c.next_line-line.result
whole c = whole-at _ _ _ c.next_line-line.ensures (omega arith)

pub loop-at-init : goal.loop-at-init
loop-at-init c = let e = c.start-st.ensures in record { within = within-start _; sound = sound-start _ _ e c.requires; before = before-start 8 (omega arith) _ _ refl _ e }

pub slice_bounds-passes-count : goal.slice_bounds-passes-count
slice_bounds-passes-count c = (here c).ordered

pub slice_bounds-passes-start : goal.slice_bounds-passes-start
slice_bounds-passes-start c = (here c).ordered

pub slice_bounds-passes-end : goal.slice_bounds-passes-end
slice_bounds-passes-end c = (here c).within

pub overflow_add-n : goal.overflow_add-n
overflow_add-n c = omega (arith, c.loop-at.invariant.within.number, (here (goal.at.overflow_add-n c).After-next_line-line).further, (here (goal.at.overflow_add-n c).After-next_line-line).inside)

pub loop-at-smaller-then-passes : goal.loop-at-smaller-then-passes
loop-at-smaller-then-passes c = omega (arith, (here (goal.at.loop-at-smaller-then-passes c).After-next_line-line).further, (here (goal.at.loop-at-smaller-then-passes c).After-next_line-line).inside)

pub loop-at-preserved-then-passes : goal.loop-at-preserved-then-passes
loop-at-preserved-then-passes c = let w = c.loop-at.invariant in
    names-pass w _ (here (goal.at.loop-at-preserved-then-passes c).After-next_line-line) (whole (goal.at.loop-at-preserved-then-passes c).After-next_line-line) (sym c.passes.ensures ∙ c.if-passes.true)

pub slice_bounds-step-count : goal.slice_bounds-step-count
slice_bounds-step-count c = (here (goal.at.slice_bounds-step-count c).After-next_line-line).ordered

pub slice_bounds-step-start : goal.slice_bounds-step-start
slice_bounds-step-start c = (here (goal.at.slice_bounds-step-start c).After-next_line-line).ordered

pub slice_bounds-step-end : goal.slice_bounds-step-end
slice_bounds-step-end c = (here (goal.at.slice_bounds-step-end c).After-next_line-line).within

pub returns-then-section_in-eq8 : goal.returns-then-section_in-eq8
returns-then-section_in-eq8 c = names-met c.loop-at.invariant _ (here (goal.at.returns-then-section_in-eq8 c).After-next_line-line) (whole (goal.at.returns-then-section_in-eq8 c).After-next_line-line) _ c.step-did.ensures (sym c.section_in.ensures ∙ c.if-section_in-eq8.true)

pub overflow_add-n-else-passes : goal.overflow_add-n-else-passes
overflow_add-n-else-passes c = omega (arith, c.loop-at.invariant.within.number, (here (goal.at.overflow_add-n-else-passes c).After-next_line-line).further, (here (goal.at.overflow_add-n-else-passes c).After-next_line-line).inside)

pub loop-at-smaller : goal.loop-at-smaller
loop-at-smaller c = omega (arith, (here (goal.at.loop-at-smaller c).After-next_line-line).further, (here (goal.at.loop-at-smaller c).After-next_line-line).inside)

pub loop-at-preserved : goal.loop-at-preserved
loop-at-preserved c = names-turn c.loop-at.invariant _ (here (goal.at.loop-at-preserved c).After-next_line-line) (whole (goal.at.loop-at-preserved c).After-next_line-line) _ c.step-did.ensures (λ e. c.if-section_in-eq8.false (c.section_in.ensures ∙ e))

pub returns : goal.returns
returns c = c.walk_start.ensures ∙ before-end c.loop-at.invariant.before c.loop-at-test.false
