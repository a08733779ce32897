use mathlib.Core.Path.{refl}
use native.Mathlib.Omega.{arith}
use Rattle.rules.proofs.Kept.{none-broken}
use Rattle.reader.proofs.Judging.{rule-broken, rule-kept, rules-kept, rules-all-kept}
use Rattle.reader.proofs.ask_rules.Goals as goal

pub returns-then-rows-first_breaking : goal.returns-then-rows-first_breaking
returns-then-rows-first_breaking c = rules-all-kept _ _ _ _ (none-broken _ _ _ _ _ c.first_breaking.ensures c.if-rows-first_breaking.true)

pub loop-i-init : goal.loop-i-init
loop-i-init c = refl

pub returns-then-k-rows : goal.returns-then-k-rows
returns-then-k-rows c = rw c.refused.ensures (rule-broken _ _ _ _ _ c.loop-i.invariant c.loop-i-test.true _ c.rule_at-rule.ensures _ c.first_broken-k.ensures c.if-k-rows.true _ c.rule_refusal.ensures _ c.row_line.ensures)

pub loop-i-preserved : goal.loop-i-preserved
loop-i-preserved c = rule-kept _ _ _ _ _ c.loop-i.invariant c.loop-i-test.true _ c.rule_at-rule.ensures _ c.first_broken-k.ensures c.if-k-rows.false

pub returns : goal.returns
returns c = rules-kept _ _ _ _ _ c.loop-i.invariant c.loop-i-test.false
