-- `print::put_signed` meets its contract: the number's sign and size are written. Assumes nothing.
use Rattle.std.proofs.Common.{◌∙◌, ap, nat_abs}
use Rattle.signed.proofs.Machine.{below-zero, rd-is}
use Rattle.print.proofs.Writing.{wrote-signed}
use Rattle.print.proofs.put_signed.Goals as goal

pub returns : goal.returns
returns c = wrote-signed _ _ _ (below-zero c.ranges.z) (c.unsigned_abs.ensures.value ∙ ap nat_abs (rd-is c.ranges.z)) c.put_number.ensures
