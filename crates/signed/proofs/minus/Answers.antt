-- `signed::minus` meets its contract: what does not fit an i64 is beyond every size. Assumes nothing.
use Rattle.std.proofs.Common.{sym, ◌∙◌}
use Rattle.signed.proofs.Machine.{rd-is}
use Rattle.signed.proofs.Sign.{within-unfit}
use Rattle.signed.proofs.minus.Goals as goal

pub returns-in_err-checked_sub : goal.returns-in_err-checked_sub
returns-in_err-checked_sub c = c.from_residual.ensures ∙ sym (within-unfit _ _ (λ f. c.in_err-checked_sub.ensures (rw (rd-is c.ranges.a, rd-is c.ranges.b) f)))
