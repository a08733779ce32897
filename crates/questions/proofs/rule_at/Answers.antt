-- `questions::rule_at` meets its contract. Assumes nothing.
use native.Mathlib.Omega.{arith}
use Rattle.questions.proofs.Asking.{last-rule}
use Rattle.questions.specs.Asked.{in_order, rule_at}
use Rattle.questions.proofs.rule_at.Goals as goal

pub returns-in-0 : goal.returns-in-0
unfolding rule_at in_order
returns-in-0 c = rw c.in-0.is

pub returns-in-1 : goal.returns-in-1
unfolding rule_at in_order
returns-in-1 c = rw c.in-1.is

pub returns-in-2 : goal.returns-in-2
unfolding rule_at in_order
returns-in-2 c = rw c.in-2.is

pub returns-in-3 : goal.returns-in-3
unfolding rule_at in_order
returns-in-3 c = rw c.in-3.is

pub returns-in-4 : goal.returns-in-4
unfolding rule_at in_order
returns-in-4 c = rw c.in-4.is

pub returns-in_default : goal.returns-in_default
returns-in_default c = last-rule _ (omega arith)
