use Rattle.rules.proofs.Alike.{once-same, timed-same}
use Rattle.rules.proofs.Filling.{fill_start, fill-turn, fill_end}
use Rattle.rules.proofs.fill_lengths.Goals as goal

pub loop-k-init : goal.loop-k-init
loop-k-init c = fill_start _ _ _ _ _

pub fill_row-requires-clause-none_again : goal.fill_row-requires-clause-none_again
fill_row-requires-clause-none_again c = once-same _ _ c.loop-k.invariant.alike _ c.requires

pub fill_row-requires-clause-timed : goal.fill_row-requires-clause-timed
fill_row-requires-clause-timed c = timed-same _ _ c.loop-k.invariant.alike _ _ c.is_timed-timed.ensures

pub loop-k-preserved : goal.loop-k-preserved
loop-k-preserved c = fill-turn _ _ _ _ _ _ _ _ c.loop-k.invariant c.loop-k-test.true c.fill_row.ensures

pub returns : goal.returns
returns c = fill_end _ _ _ _ _ _ _ c.loop-k.invariant c.loop-k-test.false
