-- `blocks::block_length` meets its contract. Assumes nothing.
use Rattle.std.proofs.Common.{◌∙◌}
use Rattle.signed.proofs.Machine.{rd-at}
use Rattle.blocks.specs.Blocks.{block_length}
use Rattle.blocks.proofs.Lasting.{block-14}
use Rattle.blocks.proofs.block_length.Goals as goal

pub returns-in-V13 : goal.returns-in-V13
unfolding block_length
returns-in-V13 c = c.longest_event.ensures ∙ rw c.in-V13.is

pub returns-in-V14 : goal.returns-in-V14
returns-in-V14 c = block-14 _ _ _ _ _ _ c.in-V14.is _ _ _ (rd-at _ c.number.type_inv ∙ c.number.ensures) c.unsigned_abs.ensures.value c.nanos.ensures
