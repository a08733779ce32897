-- `blocks::outlasts` meets its contract. Assumes nothing.
use Rattle.std.proofs.Common.{◌≡◌, pos, true, arith}
use Rattle.signed.specs.Signed.{same_z}
use Rattle.blocks.specs.Blocks.{outlasts_at}
use Rattle.blocks.proofs.Timeless.{timed-all}
use Rattle.blocks.proofs.Lasting.{outlasts-block}
use Rattle.blocks.proofs.outlasts.Goals as goal

pub returns-then-number-ne-BLOCK : goal.returns-then-number-ne-BLOCK
unfolding outlasts_at same_z
returns-then-number-ne-BLOCK c = grind arith

pub invariant_of-timing : goal.invariant_of-timing
invariant_of-timing c = record { told = timed-all _ _ }

pub returns : goal.returns
unfolding same_z
returns c = let block : same_z c.number.result (pos 1) ≡ true = grind arith in outlasts-block _ _ _ _ _ _ c.number.ensures block _ _ _ c.block_length-ns.ensures c.longest_event.ensures c.exceeds.ensures
