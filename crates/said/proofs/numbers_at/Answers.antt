-- `said::numbers_at` meets its contract. Assumes nothing.
use Rattle.std.proofs.Common.{refl, ◌∙◌}
use Rattle.signed.proofs.Machine.{rd-at}
use Rattle.said.proofs.Saying.{copy_start, copy-turn, copy-end}
use Rattle.said.proofs.numbers_at.Goals as goal

pub loop-c-init : goal.loop-c-init
loop-c-init c = copy_start _ _ _ refl

pub loop-c-preserved : goal.loop-c-preserved
loop-c-preserved c = copy-turn _ _ _ _ c.loop-c.invariant c.loop-c-test.true _ (rd-at _ c.number.type_inv ∙ c.number.ensures)

pub returns : goal.returns
returns c = copy-end _ _ _ _ c.loop-c.invariant c.loop-c-test.false
