use Rattle.file.proofs.Walking.{within-turn}
use Rattle.text.proofs.Cut.{LineAt, line-at}
use native.Mathlib.Omega.{arith}
use Rattle.duplicates.proofs.count_words.Goals.{After-next_line-line}
use Rattle.duplicates.proofs.count_words.Goals as goal

-- the line that starts here
here : (c : After-next_line-line) → LineAt c.args.file.now c.loop-at.at c.next_line-line.result
here c = line-at _ _ _ c.next_line-line.ensures (omega arith)

pub overflow_add-n : goal.overflow_add-n
overflow_add-n c = omega (arith, c.requires.at_in_bounds, c.requires.lines_le_at)

pub loop-at-init : goal.loop-at-init
loop-at-init c = (record { inside = c.requires.at_in_bounds; number = omega (arith, c.requires.lines_le_at) }, omega arith)

pub slice_bounds-passes-count : goal.slice_bounds-passes-count
slice_bounds-passes-count c = (here c).ordered

pub slice_bounds-passes-start : goal.slice_bounds-passes-start
slice_bounds-passes-start c = (here c).ordered

pub slice_bounds-passes-end : goal.slice_bounds-passes-end
slice_bounds-passes-end c = (here c).within

pub overflow_add-n-then-passes : goal.overflow_add-n-then-passes
overflow_add-n-then-passes c = omega (arith, c.loop-at.invariant.0.number, (here (goal.at.overflow_add-n-then-passes c).After-next_line-line).further, (here (goal.at.overflow_add-n-then-passes c).After-next_line-line).inside)

pub loop-at-smaller-then-passes : goal.loop-at-smaller-then-passes
loop-at-smaller-then-passes c = omega (arith, (here (goal.at.loop-at-smaller-then-passes c).After-next_line-line).further, (here (goal.at.loop-at-smaller-then-passes c).After-next_line-line).inside)

pub loop-at-preserved-then-passes : goal.loop-at-preserved-then-passes
loop-at-preserved-then-passes c = let i = c.loop-at.invariant in (within-turn i.0 (here (goal.at.loop-at-preserved-then-passes c).After-next_line-line), omega (arith, i.1))

pub slice_bounds-step-count : goal.slice_bounds-step-count
slice_bounds-step-count c = (here (goal.at.slice_bounds-step-count c).After-next_line-line).ordered

pub slice_bounds-step-start : goal.slice_bounds-step-start
slice_bounds-step-start c = (here (goal.at.slice_bounds-step-start c).After-next_line-line).ordered

pub slice_bounds-step-end : goal.slice_bounds-step-end
slice_bounds-step-end c = (here (goal.at.slice_bounds-step-end c).After-next_line-line).within

pub overflow_add-count : goal.overflow_add-count
overflow_add-count c = let i = c.loop-at.invariant in omega (arith, i.0.number, i.1, (here (goal.at.overflow_add-count c).After-next_line-line).further, (here (goal.at.overflow_add-count c).After-next_line-line).inside, c.word_count-count.ensures)

pub overflow_add-n-else-passes : goal.overflow_add-n-else-passes
overflow_add-n-else-passes c = let i = c.loop-at.invariant in omega (arith, i.0.number, (here (goal.at.overflow_add-n-else-passes c).After-next_line-line).further, (here (goal.at.overflow_add-n-else-passes c).After-next_line-line).inside)

pub loop-at-smaller : goal.loop-at-smaller
loop-at-smaller c = omega (arith, (here (goal.at.loop-at-smaller c).After-next_line-line).further, (here (goal.at.loop-at-smaller c).After-next_line-line).inside)

pub loop-at-preserved : goal.loop-at-preserved
loop-at-preserved c = let i = c.loop-at.invariant in (within-turn i.0 (here (goal.at.loop-at-preserved c).After-next_line-line), omega (arith, i.1, c.word_count-count.ensures))
