-- `numeral::round_down` meets its contract: one digit more is kept, and rounds. Assumes nothing.
use Rattle.numeral.proofs.Scaling.{power-some, nearest-far, nearest-is}
use Rattle.numeral.proofs.round_down.Goals as goal

pub returns-then-k-gt19 : goal.returns-then-k-gt19
returns-then-k-gt19 c = nearest-far _ _ c.if-k-gt19.true c.requires.1

pub nonzero_div-result : goal.nonzero_div-result
nonzero_div-result c = power-some _ c.power_of_ten.ensures

pub returns : goal.returns
returns c = nearest-is _ _ _ c.requires.0 c.power_of_ten.ensures
