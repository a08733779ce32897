-- `said::duration_number` meets its contract. Assumes nothing.
use Rattle.said.proofs.Saying.{duration-is}
use Rattle.signed.proofs.Machine.{rd-at}
use mathlib.Core.Path.{◌∙◌}
use Rattle.said.proofs.duration_number.Goals as goal

pub returns : goal.returns
returns c = rd-at _ c.with_sign.type_inv ∙ duration-is _ _ _ _ _ _ c.duration_of.ensures _ c.with_sign.ensures
