-- `sampling::size_at` meets its contract. Assumes nothing.
use mathlib.Core.Path.{ap, ◌∙◌}
use lib.IntN.{nat_abs}
use Rattle.signed.proofs.Machine.{rd-at}
use Rattle.sampling.proofs.size_at.Goals as goal

pub returns : goal.returns
returns c = c.unsigned_abs.ensures.value ∙ ap nat_abs (rd-at _ c.number.type_inv ∙ c.number.ensures)
