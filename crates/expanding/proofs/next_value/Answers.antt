use native.Mathlib.Omega.{arith}
use mathlib.Core.Path.{sym, ◌∙◌}
use Rattle.shape.proofs.Items.{held-at, held-item}
use Rattle.expanding.proofs.Passing.{passing-start, passing-end, passing-value, passing-skipped, passing-bad}
use Rattle.expanding.proofs.next_value.Goals.{After-item_at-line}
use Rattle.expanding.proofs.next_value.Goals as goal

pub loop-at-init : goal.loop-at-init
loop-at-init c = passing-start _ _

pub returns-in-Value : goal.returns-in-Value
returns-in-Value c = passing-value c.loop-at.invariant (held-at _ _ _ c.item_at-line.ensures (omega arith)) (sym (held-item _ _ _ c.item_at-line.ensures) ∙ c.in-Value.is)

pub loop-at-smaller : goal.loop-at-smaller
loop-at-smaller c = let l = (held-at _ _ _ c.item_at-line.ensures (omega arith)) in omega (arith, l.further, l.inside)

pub loop-at-preserved : goal.loop-at-preserved
loop-at-preserved c = passing-skipped c.loop-at.invariant (held-at _ _ _ c.item_at-line.ensures (omega arith)) (sym (held-item _ _ _ c.item_at-line.ensures) ∙ c.in-Skipped.is)

pub returns-in-Bad : goal.returns-in-Bad
returns-in-Bad c = passing-bad c.loop-at.invariant (held-at _ _ _ c.item_at-line.ensures (omega arith)) (sym (held-item _ _ _ c.item_at-line.ensures) ∙ c.in-Bad.is)

pub returns : goal.returns
returns c = passing-end c.loop-at.invariant (omega arith)
