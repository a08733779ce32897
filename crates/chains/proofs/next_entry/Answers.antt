-- `chains::next_entry` meets its contract. Assumes nothing.
use Rattle.std.proofs.Common.{arith}
use Rattle.std.proofs.lemmas.Int.{to_z-of_z}
use Rattle.chains.specs.Chains.{next_entry}
use Rattle.chains.proofs.next_entry.Goals as goal

pub returns : goal.returns
unfolding next_entry
returns c = grind (arith, to_z-of_z)
