-- `numeral::signed_as` meets its contract: a size that an i64 holds is not cut. Assumes nothing.
use Rattle.std.proofs.Common.{◌∙◌}
use Rattle.signed.proofs.Machine.{rd-at}
use Rattle.numeral.proofs.Outcomes.{as-value, as-bad}
use Rattle.numeral.proofs.signed_as.Goals as goal

pub returns-in_err-n : goal.returns-in_err-n
returns-in_err-n c = c.from_residual.ensures ∙ as-bad _ _ c.in_err-n.was

pub returns : goal.returns
returns c = as-value _ _ _ _ c.in_ok-n.was c.requires (rd-at _ c.with_sign.type_inv ∙ c.with_sign.ensures)
