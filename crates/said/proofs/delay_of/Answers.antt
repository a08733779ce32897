-- `said::delay_of` meets its contract. Assumes nothing.
use Rattle.std.proofs.Common.{ap, ◌∙◌}
use Rattle.durations.specs.Durations.{stands_at}
use Rattle.durations.proofs.Filling.{first-used}
use Rattle.durations.proofs.Listing.{stands-number}
use Rattle.said.proofs.delay_of.Goals as goal

pub returns-then-place-uses : goal.returns-then-place-uses
returns-then-place-uses c = stands-number _ _ _ _ (first-used _ _ _ c.args.uses.now.first_used) _ (c.stands_at-place.ensures ∙ ap (stands_at _) c.nanos_at.ensures) c.if-place-uses.true
