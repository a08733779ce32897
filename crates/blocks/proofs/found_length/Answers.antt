-- `blocks::found_length` meets its contract. Assumes nothing.
use Rattle.std.proofs.Common.{◌≡◌, pos, true, refl, arith}
use Rattle.signed.specs.Signed.{same_z}
use Rattle.blocks.specs.Inside.{found_length}
use Rattle.blocks.proofs.Lasting.{found-untimed}
use Rattle.blocks.proofs.found_length.Goals as goal

pub returns-then-class-ne-ENTRY : goal.returns-then-class-ne-ENTRY
unfolding found_length same_z
returns-then-class-ne-ENTRY c = grind arith

pub returns-then-timing : goal.returns-then-timing
unfolding found_length same_z
returns-then-timing c = grind arith

pub returns : goal.returns
unfolding same_z
returns c = let chain : same_z c.args.class (pos 7) ≡ true = grind arith in found-untimed _ _ _ _ refl _ chain c.if-timing.false c.args.timing.told
