-- `signed::plus` meets its contract: what does not fit an i64 is beyond every size. Assumes nothing.
use Rattle.std.proofs.Common.{sym, ◌∙◌}
use Rattle.signed.proofs.Machine.{rd-is}
use Rattle.signed.proofs.Sign.{within-unfit}
use Rattle.signed.proofs.plus.Goals as goal

pub returns-in_err-checked_add : goal.returns-in_err-checked_add
returns-in_err-checked_add c = c.from_residual.ensures ∙ sym (within-unfit _ _ (λ f. c.in_err-checked_add.ensures (rw (rd-is c.ranges.a, rd-is c.ranges.b) f)))
