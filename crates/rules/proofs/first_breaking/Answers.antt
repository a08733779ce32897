-- `rules::first_breaking` meets its contract: the earlier of two. Assumes nothing.
use Rattle.rules.specs.Rules.{is_broken}
use Rattle.rules.specs.Inside.{breaks_any}
use Rattle.blocks.proofs.Timeless.{timed-told}
use Rattle.rules.proofs.Kept.{earlier_is}
use Rattle.rules.proofs.first_breaking.Goals as goal

pub invariant_of-first_other : goal.invariant_of-first_other
invariant_of-first_other c = record { told = timed-told _ _ c.has_triggers-timed.ensures }

pub returns : goal.returns
unfolding breaks_any is_broken
returns c = earlier_is _ _ _ _ _ c.first_other-other.ensures c.first_misfit.ensures c.min.ensures
