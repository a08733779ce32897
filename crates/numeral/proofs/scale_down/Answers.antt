-- `numeral::scale_down` meets its contract: far down only 0 is whole; else the remainder tells. Assumes nothing.
use Rattle.numeral.proofs.Scaling.{power-some, down-far}
use Rattle.numeral.proofs.scale_down.Goals as goal

pub returns-then-k-gt18 : goal.returns-then-k-gt18
returns-then-k-gt18 c = down-far _ _ _ _ c.if-k-gt18.true c.requires c.if-v-eq0.false

pub nonzero_rem-v : goal.nonzero_rem-v
nonzero_rem-v c = power-some _ c.power_of_ten-p.ensures
