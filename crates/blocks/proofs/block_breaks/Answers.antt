-- `blocks::block_breaks` meets its contract. Assumes nothing.
use Rattle.std.proofs.Common.{◌∙◌}
use Rattle.blocks.proofs.Asked.{breaks-13, breaks-long, breaks-14}
use Rattle.blocks.proofs.block_breaks.Goals as goal

pub returns-in-V13 : goal.returns-in-V13
returns-in-V13 c = c.some_breaks.ensures ∙ breaks-13 _ _ _ _ _ _ c.requires c.in-V13.is

pub returns-then-exceeds : goal.returns-then-exceeds
returns-then-exceeds c = c.if-exceeds.true ∙ breaks-long _ _ _ _ _ _ c.requires c.in-V14.is _ c.block_length-own.ensures c.exceeds.ensures c.if-exceeds.true

pub returns-else-exceeds : goal.returns-else-exceeds
returns-else-exceeds c = c.some_breaks-else-exceeds.ensures ∙ breaks-14 _ _ _ _ _ _ c.requires c.in-V14.is _ c.block_length-own.ensures c.exceeds.ensures c.if-exceeds.false
