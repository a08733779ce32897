-- `pulseq::pulseq_definition` meets its contract. The spot is told (`definition-tells`). Assumes nothing.
use Rattle.pulseq.proofs.Telling.{definition-tells}
use Rattle.pulseq.proofs.pulseq_definition.Goals as goal

pub returns : goal.returns
returns c = definition-tells c.spot_number-source.ensures c.spot_start-start.ensures c.spot_length-size.ensures c.tell.ensures c.definition_spot-spot.ensures
