use Rattle.duplicates.proofs.WordParts.{word-hit, word-turn}
use Rattle.duplicates.proofs.Passed.{KeptWalk, sound-start, passed-turn, read-good, read-sound, jump, nowhere}
use Rattle.duplicates.proofs.Parts.{walk_start, walk_end}
use Rattle.duplicates.proofs.Beyond.{names-ahead, nowhere-ahead}
use Rattle.duplicates.specs.Words.{words_of}
use Rattle.text.proofs.Cut.{LineAt, line-at, WholeAt, whole-at}
use mathlib.Core.Path.{sym, ◌∙◌}
use native.Mathlib.Omega.{arith}
use Prim.Native.Nat.{◌+◌}
use Rattle.passing.proofs.Reaching.{toward-start, toward-pass, toward-turn}
use Rattle.duplicates.proofs.first_kept.Goals.{After-next_line-line, After-struct_known-1}
use Rattle.duplicates.proofs.first_kept.Goals as goal

-- the line that starts here
here : (c : After-next_line-line) → LineAt c.args.file.now c.loop-at.at c.next_line-line.result
here c = line-at _ _ _ c.next_line-line.ensures (omega arith)

whole : (c : After-next_line-line) → WholeAt c.args.file.now c.loop-at.at c.next_line-line.result
whole c = whole-at _ _ _ c.next_line-line.ensures (omega arith)

-- on to where names begin
on : (c : After-struct_known-1)
    → KeptWalk c.args.parts c.args.part c.args.file.now c.args.names c.args.set.now c.args.names.state c.args.names.at (c.args.names.lines + 1) c.loop-at.set
on c = let a = names-ahead _ _ _ (sym c.words_ahead.ensures ∙ c.in-Names.is) in
    jump c.loop-at.invariant a.0 a.1

pub loop-at-init : goal.loop-at-init
unfolding words_of
loop-at-init c = record {
  words = record { walk = walk_start _ _ _ _ _ _ _ _ _ c.start-st.ensures; sound = sound-start _ _ c.start-st.ensures c.requires.file_value };
  toward = toward-start 8 (omega arith) _ _ c.requires.names_value _ c.start-st.ensures;
}

pub slice_bounds-passes-count : goal.slice_bounds-passes-count
slice_bounds-passes-count c = (here c).ordered

pub slice_bounds-passes-start : goal.slice_bounds-passes-start
slice_bounds-passes-start c = (here c).ordered

pub slice_bounds-passes-end : goal.slice_bounds-passes-end
slice_bounds-passes-end c = (here c).within

pub overflow_add-n : goal.overflow_add-n
overflow_add-n c = omega (arith, c.loop-at.invariant.words.walk.within.number, (here (goal.at.overflow_add-n c).After-next_line-line).further, (here (goal.at.overflow_add-n c).After-next_line-line).inside)

pub loop-at-smaller-then-passes : goal.loop-at-smaller-then-passes
loop-at-smaller-then-passes c = omega (arith, (here (goal.at.loop-at-smaller-then-passes c).After-next_line-line).further, (here (goal.at.loop-at-smaller-then-passes c).After-next_line-line).inside)

pub loop-at-preserved-then-passes : goal.loop-at-preserved-then-passes
loop-at-preserved-then-passes c = let w = c.loop-at.invariant in
    let p = sym c.passes.ensures ∙ c.if-passes.true in
    record { words = passed-turn w.words _ (here (goal.at.loop-at-preserved-then-passes c).After-next_line-line) p; toward = toward-pass w.toward _ (here (goal.at.loop-at-preserved-then-passes c).After-next_line-line) (whole (goal.at.loop-at-preserved-then-passes c).After-next_line-line) w.words.sound p }

pub slice_bounds-step-count : goal.slice_bounds-step-count
slice_bounds-step-count c = (here (goal.at.slice_bounds-step-count c).After-next_line-line).ordered

pub slice_bounds-step-start : goal.slice_bounds-step-start
slice_bounds-step-start c = (here (goal.at.slice_bounds-step-start c).After-next_line-line).ordered

pub slice_bounds-step-end : goal.slice_bounds-step-end
slice_bounds-step-end c = (here (goal.at.slice_bounds-step-end c).After-next_line-line).within

pub slice_bounds-names_again-count : goal.slice_bounds-names_again-count
slice_bounds-names_again-count c = (here (goal.at.slice_bounds-names_again-count c).After-next_line-line).ordered

pub slice_bounds-names_again-start : goal.slice_bounds-names_again-start
slice_bounds-names_again-start c = (here (goal.at.slice_bounds-names_again-start c).After-next_line-line).ordered

pub slice_bounds-names_again-end : goal.slice_bounds-names_again-end
slice_bounds-names_again-end c = (here (goal.at.slice_bounds-names_again-end c).After-next_line-line).within

pub shape_of-set-then-names_again : goal.shape_of-set-then-names_again
shape_of-set-then-names_again c = c.names_again.auto.set ∙ c.loop-at.invariant.words.walk.long

pub returns-then-names_again : goal.returns-then-names_again
returns-then-names_again c = let w = c.loop-at.invariant.words in
    word-hit _ _ w.walk _ (here (goal.at.returns-then-names_again c).After-next_line-line) _ c.step-did.ensures (read-good w _ (here (goal.at.returns-then-names_again c).After-next_line-line) _ c.step-did.ensures) _ c.names_again.ensures.value c.if-names_again.true

pub overflow_add-n-else-passes : goal.overflow_add-n-else-passes
overflow_add-n-else-passes c = omega (arith, c.loop-at.invariant.words.walk.within.number, (here (goal.at.overflow_add-n-else-passes c).After-next_line-line).further, (here (goal.at.overflow_add-n-else-passes c).After-next_line-line).inside)

pub loop-at-smaller-else-passes : goal.loop-at-smaller-else-passes
loop-at-smaller-else-passes c = omega (arith, (here (goal.at.loop-at-smaller-else-passes c).After-next_line-line).further, (here (goal.at.loop-at-smaller-else-passes c).After-next_line-line).inside)

pub loop-at-preserved-else-passes : goal.loop-at-preserved-else-passes
loop-at-preserved-else-passes c = let w = c.loop-at.invariant in
    let e = read-good w.words _ (here (goal.at.loop-at-preserved-else-passes c).After-next_line-line) _ c.step-did.ensures in
    record {
      words = record {
        walk = word-turn _ _ w.words.walk _ (here (goal.at.loop-at-preserved-else-passes c).After-next_line-line) _ c.step-did.ensures e _ c.names_again.ensures.value c.if-names_again.false _ c.names_again.ensures.set_after c.names_again.auto.set;
        sound = read-sound w.words _ (here (goal.at.loop-at-preserved-else-passes c).After-next_line-line) _ c.step-did.ensures;
      };
      toward = toward-turn w.toward _ (here (goal.at.loop-at-preserved-else-passes c).After-next_line-line) (whole (goal.at.loop-at-preserved-else-passes c).After-next_line-line) _ c.step-did.ensures e;
    }

pub overflow_add-n-in-Names : goal.overflow_add-n-in-Names
overflow_add-n-in-Names c = omega (arith, (on c).words.walk.within.number, (on c).words.walk.within.inside)

pub loop-at-smaller : goal.loop-at-smaller
loop-at-smaller c = let a = names-ahead _ _ _ (sym c.words_ahead.ensures ∙ c.in-Names.is) in
    omega (arith, (on c).words.walk.within.inside, a.1)

pub loop-at-preserved : goal.loop-at-preserved
loop-at-preserved c = on c

pub shape_of-set-in-Nowhere : goal.shape_of-set-in-Nowhere
shape_of-set-in-Nowhere c = c.loop-at.invariant.words.walk.long

pub returns-in-Nowhere : goal.returns-in-Nowhere
returns-in-Nowhere c = let a = nowhere-ahead _ _ _ (sym c.words_ahead.ensures ∙ c.in-Nowhere.is) in
    nowhere c.loop-at.invariant a.0 a.1

pub shape_of-set : goal.shape_of-set
shape_of-set c = c.loop-at.invariant.words.walk.long

pub returns : goal.returns
returns c = walk_end _ _ _ _ _ c.loop-at.invariant.words.walk c.loop-at-test.false
