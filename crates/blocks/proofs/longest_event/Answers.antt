use Rattle.blocks.proofs.Lasting.{longest-start, longest-turn, longest-end}
use Rattle.blocks.proofs.longest_event.Goals as goal

pub loop-c-init : goal.loop-c-init
loop-c-init c = longest-start _ _ _ _ _ _

pub loop-c-preserved : goal.loop-c-preserved
loop-c-preserved c = longest-turn _ _ _ _ _ _ _ _ _ _ c.loop-c.invariant c.loop-c-test.true c.number_length.ensures c.longer-longest.ensures

pub returns : goal.returns
returns c = longest-end _ _ _ _ _ _ _ _ c.loop-c.invariant c.loop-c-test.false
