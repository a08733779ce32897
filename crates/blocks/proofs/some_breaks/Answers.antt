use Rattle.blocks.proofs.Asked.{asking-start, asking-here, asking-turn, asking-end}
use Rattle.blocks.proofs.some_breaks.Goals as goal

pub loop-number-init : goal.loop-number-init
loop-number-init c = asking-start _ _ _ _ _ _ _

pub returns-then-number_breaks : goal.returns-then-number_breaks
returns-then-number_breaks c = asking-here _ _ _ _ _ _ _ _ c.loop-number.invariant c.loop-number-test.true c.number_breaks.ensures c.if-number_breaks.true

pub loop-number-preserved : goal.loop-number-preserved
loop-number-preserved c = asking-turn _ _ _ _ _ _ _ _ c.loop-number.invariant c.loop-number-test.true c.number_breaks.ensures c.if-number_breaks.false

pub returns : goal.returns
returns c = asking-end _ _ _ _ _ _ _ _ c.loop-number.invariant c.loop-number-test.false c.requires
