use Rattle.again.proofs.Asking.{best-turn, best-end}
use Rattle.again.proofs.first_of_parts.Goals as goal

pub loop-part-preserved : goal.loop-part-preserved
loop-part-preserved c = best-turn c.loop-part.invariant c.requires.le_parts c.first_in-first.ensures

pub returns : goal.returns
returns c = best-end c.loop-part.invariant c.requires.le_parts c.requires.noted c.loop-part-test.false
