-- `pulseq::pulseq_read` meets its contract. All comes from the contract of reading and from what is told of its answer (`read-tells`). Assumes nothing.
use Rattle.pulseq.proofs.Telling.{read-tells}
use Rattle.pulseq.proofs.pulseq_read.Goals as goal

pub returns : goal.returns
returns c = read-tells c.read-read.ensures c.number-number.ensures c.line-line.ensures c.rows-used.ensures c.samples-count.ensures c.tell.ensures
