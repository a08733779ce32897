-- `events::named_fits` meets its contract: the shape that is met, or none. Assumes nothing.
use Rattle.std.proofs.Common.{ap, ◌∙◌}
use Rattle.signed.proofs.Machine.{rd-is}
use Rattle.tables.proofs.Meeting.{samples-met, samples-unmet}
use Rattle.events.specs.Inside.{samples_fit}
use Rattle.events.proofs.Marking.{none-fit}
use Rattle.events.proofs.named_fits.Goals as goal

pub returns-then-k-rows-clause-value : goal.returns-then-k-rows-clause-value
returns-then-k-rows-clause-value c = c.shape_fits.ensures.value ∙ ap (samples_fit _) (samples-met _ _ _ (rd-is c.ranges.id) _ c.met_row-k.ensures c.if-k-rows.true)

pub returns-clause-value : goal.returns-clause-value
returns-clause-value c = none-fit _ ∙ ap (samples_fit _) (samples-unmet _ _ _ (rd-is c.ranges.id) _ c.met_row-k.ensures c.if-k-rows.false)
