-- `numeral::scale_up` meets its contract: far up only 0 stays in the range; else a product that does not fit is above it. Assumes nothing.
use Rattle.std.proofs.Common.{◌∙◌, arith}
use Rattle.numeral.proofs.Scaling.{up-far, up-over}
use Rattle.numeral.proofs.scale_up.Goals as goal

pub returns-then-k-gt18 : goal.returns-then-k-gt18
returns-then-k-gt18 c = up-far _ _ _ _ c.if-v-eq0.false c.if-k-gt18.true c.requires

pub returns-in_err-checked_mul : goal.returns-in_err-checked_mul
returns-in_err-checked_mul c = c.from_residual.ensures ∙ up-over _ _ _ _ c.power_of_ten.ensures (omega (arith, c.in_err-checked_mul.ensures)) c.requires
