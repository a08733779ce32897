-- `blocks::number_length` meets its contract. Assumes nothing.
use Rattle.std.proofs.Common.{◌≡◌, pos, true, arith}
use Rattle.std.proofs.lemmas.Int.{to_z-of_z}
use Rattle.signed.specs.Signed.{same_z}
use Rattle.blocks.specs.Blocks.{number_length}
use Rattle.blocks.proofs.Lasting.{number-nothing}
use Rattle.blocks.proofs.number_length.Goals as goal

pub returns-then-id-eq0 : goal.returns-then-id-eq0
unfolding same_z
returns-then-id-eq0 c = let none : same_z c.number-id.result (pos 0) ≡ true = grind arith in number-nothing _ _ _ _ _ _ _ _ c.number-id.ensures none

pub returns : goal.returns
unfolding number_length
returns c = grind (arith, to_z-of_z)
