use native.Mathlib.Omega.{arith}
use mathlib.Core.Path.{sym, ◌∙◌}
use Rattle.shape.proofs.Items.{held-at, held-item}
use Rattle.shape.proofs.Counting.{counting-end, counting-value, counting-skipped, counting-faulty}
use Rattle.shape.proofs.count_values.Goals.{After-item_at-line}
use Rattle.shape.proofs.count_values.Goals as goal

pub loop-at-smaller-in-Value : goal.loop-at-smaller-in-Value
loop-at-smaller-in-Value c = let l = (held-at _ _ _ c.item_at-line.ensures (omega arith)) in omega (arith, l.further, l.inside)

pub loop-at-preserved-in-Value : goal.loop-at-preserved-in-Value
loop-at-preserved-in-Value c = counting-value c.loop-at.invariant (held-at _ _ _ c.item_at-line.ensures (omega arith)) (sym (held-item _ _ _ c.item_at-line.ensures) ∙ c.in-Value.is)

pub loop-at-smaller : goal.loop-at-smaller
loop-at-smaller c = let l = (held-at _ _ _ c.item_at-line.ensures (omega arith)) in omega (arith, l.further, l.inside)

pub loop-at-preserved : goal.loop-at-preserved
loop-at-preserved c = counting-skipped c.loop-at.invariant (held-at _ _ _ c.item_at-line.ensures (omega arith)) (sym (held-item _ _ _ c.item_at-line.ensures) ∙ c.in-Skipped.is)

pub returns-in-Bad : goal.returns-in-Bad
returns-in-Bad c = counting-faulty c.loop-at.invariant (held-at _ _ _ c.item_at-line.ensures (omega arith)) (sym (held-item _ _ _ c.item_at-line.ensures) ∙ c.in-Bad.is)

pub returns : goal.returns
returns c = counting-end c.loop-at.invariant (omega arith)
