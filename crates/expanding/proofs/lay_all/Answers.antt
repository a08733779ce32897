-- `expanding::lay_all` meets its contract: each way to end has its law. Assumes nothing.
use native.Mathlib.Omega.{arith}
use Rattle.expanding.proofs.Answers.{field-none, field-many, laid-refused, laid-room, laid-samples}
use Rattle.expanding.proofs.lay_all.Goals as goal

pub returns-then-num-eq0 : goal.returns-then-num-eq0
returns-then-num-eq0 c = field-none _ _ _ _ _ c.if-num-eq0.true

pub returns-then-num-gt1000000 : goal.returns-then-num-gt1000000
returns-then-num-gt1000000 c = field-many _ _ _ _ _ c.if-num-gt1000000.true

pub returns-then-not-lay : goal.returns-then-not-lay
returns-then-not-lay c = laid-refused _ _ _ _ _ (omega arith) c.if-num-gt1000000.false _ c.are_samples.ensures _ c.lay.ensures (c.if-not-lay.true) _ c.refusal.ensures

pub returns-then-samples-num : goal.returns-then-samples-num
returns-then-samples-num c = laid-room _ _ _ _ _ (omega arith) c.if-num-gt1000000.false _ c.are_samples.ensures _ c.lay.ensures (c.if-not-lay.false) (omega (arith, c.if-samples-num.true))

pub returns : goal.returns
returns c = laid-samples _ _ _ _ _ (omega arith) c.if-num-gt1000000.false _ c.are_samples.ensures _ c.lay.ensures (c.if-not-lay.false) (omega (arith, c.if-samples-num.false))
