-- `rules::is_timed` meets its contract: 1.4 is told nothing, which is true of every table. Assumes nothing.
use mathlib.Core.Bool.{true≢false}
use Rattle.blocks.specs.Inside.{Timed}
use Rattle.blocks.proofs.Timeless.{timed-told}
use Rattle.rules.proofs.is_timed.Goals as goal

pub returns-in-V13 : goal.returns-in-V13
returns-in-V13 c = timed-told _ _ c.has_triggers.ensures

pub returns-in-V14 : goal.returns-in-V14
unfolding Timed
returns-in-V14 c = λ e. absurd (true≢false e)
