-- `grammar::counted` meets its contract. Assumes nothing.
use native.Mathlib.Omega.{arith}
use Rattle.grammar.proofs.Answers.{counted-more, counted-most}
use Rattle.grammar.proofs.counted.Goals as goal

pub returns-then-st-num : goal.returns-then-st-num
returns-then-st-num c = counted-more _ _ c.if-st-num.true

pub returns-else-st-num : goal.returns-else-st-num
returns-else-st-num c = counted-most _ _ (omega arith) c.if-st-num.false
