use Rattle.finding.proofs.Noting.{left-turn, left-all}
use Rattle.finding.proofs.note_rows.Goals as goal

pub loop-k-preserved : goal.loop-k-preserved
loop-k-preserved c = left-turn c.loop-k.invariant c.note_row.ensures c.loop-k-test.true

pub returns : goal.returns
returns c = left-all c.loop-k.invariant _ c.lay_base.ensures c.base_in-base.ensures.0 c.loop-k-test.false
