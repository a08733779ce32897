-- `print::put_number` meets its contract: a minus first, or none. Assumes nothing.
use Rattle.print.proofs.Writing.{wrote-minus, wrote-plain}
use Rattle.print.proofs.put_number.Goals as goal

pub returns-then-negative : goal.returns-then-negative
returns-then-negative c = wrote-minus _ _ c.if-negative.true c.put_byte-next.ensures c.put_integer.ensures

pub returns : goal.returns
returns c = wrote-plain _ _ c.if-negative.false c.put_integer-2.ensures
