-- `again::place_of` meets its contract. Assumes nothing.
use Rattle.std.proofs.Common.{arith}
use Rattle.std.proofs.lemmas.Int.{to_z-of_z}
use Rattle.again.specs.Noting.{place_of}
use Rattle.again.proofs.place_of.Goals as goal

pub returns : goal.returns
unfolding place_of
returns c = grind (arith, to_z-of_z)
