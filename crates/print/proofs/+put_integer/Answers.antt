use native.Mathlib.Omega.{arith}
use Rattle.print.proofs.Writing.{wrote_one, wrote-more}
use Rattle.print.proofs.+put_integer.Goals as goal

pub returns-then-n-lt10 : goal.returns-then-n-lt10
returns-then-n-lt10 t c = wrote_one _ (omega arith) c.put_byte.ensures

pub returns : goal.returns
returns t c = wrote-more _ (omega arith) c.put_integer-next.ensures c.put_byte-2.ensures
