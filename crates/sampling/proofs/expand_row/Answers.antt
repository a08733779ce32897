-- `sampling::expand_row` meets its contract: what stands at the place that was found are the stored lines. Assumes nothing.
use Rattle.std.proofs.Common.{◌≡◌, ◌+◌, arith, true, false, pos}
use Rattle.std.proofs.lemmas.Grind.{common_steps}
use Rattle.std.proofs.lemmas.Int.{to_z-of_z}
use mathlib.Core.Path.{◌∙◌}
use Rattle.signed.specs.Signed.{same_z}
use Rattle.signed.proofs.Machine.{rd-at}
use Rattle.grammar.proofs.Parts.{Holds}
use Rattle.sampling.specs.Sampling.{text_at}
use Rattle.sampling.specs.Inside.{NewTo}
use Rattle.stored.specs.Inside.{Walked}
use Rattle.sampling.proofs.Laying.{row-text, row_walked, row-fails, row-shape, row_other}
use Rattle.sampling.proofs.expand_row.Goals.{Then-number-ne-SHAPE, After-stored_next-sought}
use Rattle.sampling.proofs.expand_row.Goals as goal

-- a row that is another, and one that is a shape
is-other : (c : Then-number-ne-SHAPE) → same_z c.number.result (pos 11) ≡ false
unfolding same_z
is-other c = grind (arith, common_steps, to_z-of_z)

is-shape : (c : After-stored_next-sought) → same_z c.number.result (pos 11) ≡ true
unfolding same_z
is-shape c = grind (arith, common_steps, to_z-of_z)

there : (c : After-stored_next-sought) → Holds c.args.file.now c.stored_next-sought.result.part (text_at c.args.file.now c.args.rows.now c.args.k)
there c = row-text _ _ _ _ c.requires.walked c.requires.new _ c.number.ensures (is-shape c) _ (rd-at _ c.number-2.type_inv ∙ c.number-2.ensures) _ c.stored_next-sought.ensures

walked : (c : After-stored_next-sought) → Walked c.args.file.now (NewTo c.args.rows.now (c.args.k + 1)) c.stored_next-sought.result.walk
walked c = row_walked _ _ _ _ c.requires.walked c.requires.new _ c.number.ensures (is-shape c) _ (rd-at _ c.number-2.type_inv ∙ c.number-2.ensures) _ c.stored_next-sought.ensures

pub returns-then-number-ne-SHAPE : goal.returns-then-number-ne-SHAPE
returns-then-number-ne-SHAPE c = row_other _ _ _ _ _ _ c.number.ensures (is-other c) _ c.requires.walked

pub slice_bounds-expand_shape-count : goal.slice_bounds-expand_shape-count
slice_bounds-expand_shape-count c = (there (goal.at.slice_bounds-expand_shape-count c).After-stored_next-sought).ordered

pub slice_bounds-expand_shape-start : goal.slice_bounds-expand_shape-start
slice_bounds-expand_shape-start c = (there (goal.at.slice_bounds-expand_shape-start c).After-stored_next-sought).ordered

pub slice_bounds-expand_shape-end : goal.slice_bounds-expand_shape-end
slice_bounds-expand_shape-end c = (there (goal.at.slice_bounds-expand_shape-end c).After-stored_next-sought).within

pub returns-then-expand_shape : goal.returns-then-expand_shape
returns-then-expand_shape c = let at = (goal.at.returns-then-expand_shape c).After-stored_next-sought in
    row-fails _ _ _ _ _ _ c.number.ensures (is-shape at) _ (there at).there _ _ c.expand_shape.ensures c.if-expand_shape.true

pub returns : goal.returns
returns c = let at = (goal.at.returns c).After-stored_next-sought in
    row-shape _ _ _ _ _ _ c.number.ensures (is-shape at) _ (there at).there _ _ c.expand_shape.ensures c.if-expand_shape.false _ (walked at)
