-- `blocks::is_long` meets its contract. Assumes nothing.
use Rattle.std.proofs.Common.{◌≡◌, pos, true, arith}
use Rattle.signed.specs.Signed.{same_z}
use Rattle.blocks.specs.Blocks.{is_long}
use Rattle.blocks.proofs.Timeless.{timed-all}
use Rattle.blocks.proofs.Lasting.{long-block}
use Rattle.blocks.proofs.is_long.Goals as goal

pub returns-then-number-ne-BLOCK : goal.returns-then-number-ne-BLOCK
unfolding is_long same_z
returns-then-number-ne-BLOCK c = grind arith

pub invariant_of-timing : goal.invariant_of-timing
invariant_of-timing c = record { told = timed-all _ _ }

pub returns : goal.returns
unfolding same_z
returns c = let block : same_z c.number.result (pos 1) ≡ true = grind arith in long-block _ _ _ _ _ _ c.number.ensures _ block _ _ c.block_length.ensures c.exceeds.ensures
