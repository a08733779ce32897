use Rattle.std.proofs.Common.{sym, ◌∙◌}
use Rattle.again.proofs.Asking.{keeping-hit, keeping-turn, keeping-end}
use Rattle.again.proofs.first_kept.Goals as goal

pub returns-then-look_at : goal.returns-then-look_at
returns-then-look_at c = keeping-hit c.loop-k.invariant c.loop-k-test.true (sym c.look_at.ensures.value ∙ c.if-look_at.true)

pub loop-k-preserved : goal.loop-k-preserved
loop-k-preserved c = keeping-turn c.loop-k.invariant c.loop-k-test.true (sym c.look_at.ensures.value ∙ c.if-look_at.false) c.look_at.auto.set c.look_at.ensures.all_met

pub returns : goal.returns
returns c = keeping-end c.loop-k.invariant c.loop-k-test.false
