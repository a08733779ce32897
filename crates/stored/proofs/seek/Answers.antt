use mathlib.Core.Path.{refl, sym, ap, ◌∙◌}
use native.Mathlib.Omega.{arith}
use Rattle.text.proofs.Cut.{LineAt, line-at, WholeAt, whole-at}
use Rattle.signed.proofs.Machine.{rd-at, rd-is}
use Rattle.stored.specs.Inside.{sought_of}
use Rattle.stored.proofs.Seeking.{seek-pass, seek_hit, seek-turn, seek-end, passed_is}
use Rattle.stored.proofs.seek.Goals.{After-next_line-line}
use Rattle.stored.proofs.seek.Goals as goal

-- the line that starts here
here : (c : After-next_line-line) → LineAt c.args.file.now c.loop-walk.walk.at c.next_line-line.result
here c = line-at _ _ _ c.next_line-line.ensures (omega arith)

whole : (c : After-next_line-line) → WholeAt c.args.file.now c.loop-walk.walk.at c.next_line-line.result
whole c = whole-at _ _ _ c.next_line-line.ensures (omega arith)

pub loop-walk-init : goal.loop-walk-init
loop-walk-init c = record { lines = c.requires.lines_le_at; sound = c.requires.file_value; same = refl }

pub overflow_add-number : goal.overflow_add-number
overflow_add-number c = omega (arith, c.loop-walk.invariant.lines)

pub slice_bounds-passes-count : goal.slice_bounds-passes-count
slice_bounds-passes-count c = (here c).ordered

pub slice_bounds-passes-start : goal.slice_bounds-passes-start
slice_bounds-passes-start c = (here c).ordered

pub slice_bounds-passes-end : goal.slice_bounds-passes-end
slice_bounds-passes-end c = (here c).within

pub loop-walk-smaller-then-passes : goal.loop-walk-smaller-then-passes
loop-walk-smaller-then-passes c = omega (arith, (here (goal.at.loop-walk-smaller-then-passes c).After-next_line-line).further, (here (goal.at.loop-walk-smaller-then-passes c).After-next_line-line).inside)

pub loop-walk-preserved-then-passes : goal.loop-walk-preserved-then-passes
loop-walk-preserved-then-passes c = seek-pass _ _ _ _ _ c.loop-walk.invariant _ (here (goal.at.loop-walk-preserved-then-passes c).After-next_line-line) (whole (goal.at.loop-walk-preserved-then-passes c).After-next_line-line) (sym c.passes.ensures ∙ c.if-passes.true)

pub slice_bounds-step-count : goal.slice_bounds-step-count
slice_bounds-step-count c = (here (goal.at.slice_bounds-step-count c).After-next_line-line).ordered

pub slice_bounds-step-start : goal.slice_bounds-step-start
slice_bounds-step-start c = (here (goal.at.slice_bounds-step-start c).After-next_line-line).ordered

pub slice_bounds-step-end : goal.slice_bounds-step-end
slice_bounds-step-end c = (here (goal.at.slice_bounds-step-end c).After-next_line-line).within

pub behind_values-ended-requires : goal.behind_values-ended-requires
behind_values-ended-requires c = omega (arith, (here (goal.at.behind_values-ended-requires c).After-next_line-line).further, c.loop-walk.invariant.lines)

pub returns-then-is_wanted : goal.returns-then-is_wanted
returns-then-is_wanted c = seek_hit _ _ _ _ _ c.loop-walk.invariant _ (here (goal.at.returns-then-is_wanted c).After-next_line-line) (whole (goal.at.returns-then-is_wanted c).After-next_line-line) _ c.step-did.ensures _ (passed_is _ _ _) (sym c.is_wanted.ensures ∙ c.if-is_wanted.true) _ c.behind_values-ended.ensures _ (rd-at _ c.own-1.given)
    ∙ ap (sought_of _ _ _) (rd-is c.ranges.id)

pub loop-walk-smaller : goal.loop-walk-smaller
loop-walk-smaller c = omega (arith, (here (goal.at.loop-walk-smaller c).After-next_line-line).further, (here (goal.at.loop-walk-smaller c).After-next_line-line).inside)

pub loop-walk-preserved : goal.loop-walk-preserved
loop-walk-preserved c = seek-turn _ _ _ _ _ c.loop-walk.invariant _ (here (goal.at.loop-walk-preserved c).After-next_line-line) (whole (goal.at.loop-walk-preserved c).After-next_line-line) _ c.step-did.ensures _ (passed_is _ _ _) (sym c.is_wanted.ensures ∙ c.if-is_wanted.false)

pub returns : goal.returns
returns c = seek-end _ _ _ _ _ c.loop-walk.invariant c.loop-walk-test.false ∙ ap (sought_of _ _ _) (rd-is c.ranges.id)
