-- `signed::same` meets its contract: the machine compares the bits, and two numbers with the same bits are the same. Assumes nothing.
use Rattle.signed.proofs.Sign.{same_bits}
use Rattle.signed.proofs.same.Goals as goal

pub returns : goal.returns
returns c = same_bits c.args.a c.args.b c.ranges.a.sfits c.ranges.b.sfits
