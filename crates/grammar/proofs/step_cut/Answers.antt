-- `grammar::step_cut` meets its contract: LINE refuses no short clean line. Assumes nothing.
use native.Mathlib.Omega.{arith}
use Rattle.text.proofs.Marks.{breaks-clean}
use Rattle.grammar.proofs.step_cut.Goals as goal

pub step_clean-requires : goal.step_clean-requires
step_clean-requires c = breaks-clean _ (omega arith) _ c.requires c.if-clean.true

pub returns-then-line-le1024 : goal.returns-then-line-le1024
returns-then-line-le1024 c = c.step_clean.ensures

pub returns : goal.returns
returns c = c.step.ensures
