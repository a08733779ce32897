-- `decimals::same_decimal` meets its contract. Assumes nothing.
use Rattle.std.proofs.Common.{◌∙◌}
use Rattle.decimals.proofs.Pairs.{same-eq}
use Rattle.decimals.proofs.same_decimal.Goals as goal

pub returns : goal.returns
returns c = c.eq.ensures ∙ same-eq _ _
