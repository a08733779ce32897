-- `signed::with_sign` meets its contract: a size that is held below 2^63 fits with either sign. Assumes nothing.
use Rattle.std.proofs.Common.{arith}
use Rattle.std.proofs.lemmas.Int.{ints}
use Rattle.signed.specs.Signed.{signed_of}
use Rattle.signed.proofs.with_sign.Goals as goal

pub returns-then-negative : goal.returns-then-negative
unfolding signed_of
returns-then-negative c = rw c.if-negative.true (omega (arith, ints))

pub returns-else-negative : goal.returns-else-negative
unfolding signed_of
returns-else-negative c = rw c.if-negative.false (omega (arith, ints))
