-- `lengths::trap_length` meets its contract. Assumes nothing.
use Rattle.lengths.proofs.Measured.{trap-is}
use Rattle.lengths.proofs.trap_length.Goals as goal

pub returns : goal.returns
returns c = trap-is _ _ _ _ _ _ _ _ _ c.micros.ensures c.micros-2.ensures c.micros-3.ensures c.micros-4.ensures c.plus-start.ensures c.plus-end.ensures c.plus.ensures
