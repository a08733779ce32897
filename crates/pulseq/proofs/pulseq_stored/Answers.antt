-- `pulseq::pulseq_stored` meets its contract. The spot is told (`stored-tells`). Assumes nothing.
use Rattle.pulseq.proofs.Telling.{stored-tells}
use Rattle.signed.proofs.Machine.{rd-is}
use Rattle.pulseq.proofs.pulseq_stored.Goals as goal

pub returns : goal.returns
returns c = stored-tells c.spot_number-found.ensures c.spot_start-start.ensures c.spot_length-size.ensures c.tell.ensures c.stored_spot-spot.ensures (rd-is c.ranges.id)
