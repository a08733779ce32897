-- `numeral::shift_by` meets its contract: the exponent's sign and size against the shift. Assumes nothing.
use Rattle.std.proofs.Common.{◌∙◌, sym, ap, nat_abs}
use Rattle.signed.proofs.Machine.{rd-is, below-zero}
use Rattle.numeral.proofs.Outcomes.{shift-far, shift-near, shift-down}
use Rattle.numeral.proofs.shift_by.Goals as goal

pub returns-then-far-more : goal.returns-then-far-more
returns-then-far-more c = rw c.from-more.ensures (shift-near _ _ _ (c.unsigned_abs-far.ensures.value ∙ ap nat_abs (rd-is c.ranges.e)) (sym (below-zero c.ranges.e) ∙ c.if-e-lt0.true) (rw (← c.from-more.ensures) c.if-far-more.true))

pub returns-else-far-more : goal.returns-else-far-more
returns-else-far-more c = rw c.from-more.ensures (shift-down _ _ _ (c.unsigned_abs-far.ensures.value ∙ ap nat_abs (rd-is c.ranges.e)) (sym (below-zero c.ranges.e) ∙ c.if-e-lt0.true) (rw (← c.from-more.ensures) c.if-far-more.false))

pub returns-else-e-lt0 : goal.returns-else-e-lt0
returns-else-e-lt0 c = rw c.from-more.ensures (shift-far _ _ _ (c.unsigned_abs-far.ensures.value ∙ ap nat_abs (rd-is c.ranges.e)) (sym (below-zero c.ranges.e) ∙ c.if-e-lt0.false))
