use mathlib.Core.Path.{◌∙◌}
use native.Mathlib.Omega.{arith}
use Rattle.signed.proofs.Machine.{rd-at}
use Rattle.rows.proofs.Numbers.{column-told}
use Rattle.rows.proofs.Blocks.{block_start, block-turn, block-later, block-end}
use Rattle.rows.proofs.quick_block.Goals as goal

pub loop-j-init : goal.loop-j-init
loop-j-init c = block_start _ _ _

pub loop-j-preserved : goal.loop-j-preserved
loop-j-preserved c =
    block-turn c.loop-j.invariant (omega arith) _ _ (column-told c.block_number.ensures c.in_ok-v.was) _ (rd-at _ c.with_sign-number.type_inv ∙ c.with_sign-number.ensures)

pub overflow_sub-stop : goal.overflow_sub-stop
overflow_sub-stop c = block-later c.loop-j.invariant _ c.skip-stop.ensures

pub returns : goal.returns
returns c = block-end c.loop-j.invariant (omega arith) _ c.skip-stop.ensures (omega arith) c.if-text-stop-ne10.false c.if-stop-at-gt1024.false
