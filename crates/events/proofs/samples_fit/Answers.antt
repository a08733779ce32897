-- `events::samples_fit` meets its contract: one test or the other. Assumes nothing.
use Rattle.std.proofs.Common.{◌∙◌}
use Rattle.events.proofs.Marking.{unit-fit, rising-fit}
use Rattle.events.proofs.samples_fit.Goals as goal

pub returns-in-Unit : goal.returns-in-Unit
returns-in-Unit c = c.within_one.ensures ∙ unit-fit _ c.in-Unit.is

pub returns-in-Rising : goal.returns-in-Rising
returns-in-Rising c = c.rises.ensures ∙ rising-fit _ c.in-Rising.is
