-- `print::put_scaled` meets its contract: an exponent of 0 is left out. Assumes nothing.
use Rattle.signed.proofs.Machine.{rd-is}
use Rattle.print.proofs.Writing.{zero-yes, zero-no, wrote-whole, wrote-power}
use Rattle.print.proofs.put_scaled.Goals as goal

pub returns-then-e-eq0 : goal.returns-then-e-eq0
returns-then-e-eq0 c = wrote-whole _ _ (zero-yes _ c.ranges.e c.if-e-eq0.true) c.put_number-behind.ensures

pub returns : goal.returns
returns c = wrote-power _ _ (zero-no _ c.ranges.e c.if-e-eq0.false) c.put_number-behind.ensures c.put_byte-next.ensures (rw (rd-is c.ranges.e) at c.put_signed.ensures)
