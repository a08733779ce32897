-- `again::key` meets its contract. Assumes nothing.
use Rattle.std.proofs.Common.{arith}
use Rattle.std.proofs.lemmas.Int.{to_z-of_z}
use Rattle.again.specs.Noting.{key_of}
use Rattle.again.proofs.key.Goals as goal

pub returns : goal.returns
unfolding key_of
returns c = grind (arith, to_z-of_z)
