-- `references::ref_at` meets its contract: each kind of row by its own arm. Assumes nothing.
use Rattle.std.proofs.Common.{arith}
use Rattle.std.proofs.lemmas.Int.{to_z-of_z}
use Rattle.signed.specs.Signed.{same_z}
use Rattle.references.specs.References.{ref_of, ref_at}
use Rattle.references.proofs.ref_at.Goals as goal

pub returns-in-1 : goal.returns-in-1
unfolding ref_of ref_at same_z
returns-in-1 c = grind (arith, to_z-of_z)

pub returns-in-2 : goal.returns-in-2
unfolding ref_of ref_at same_z
returns-in-2 c = grind (arith, to_z-of_z)

pub returns-in-3 : goal.returns-in-3
unfolding ref_of ref_at same_z
returns-in-3 c = grind (arith, to_z-of_z)

pub returns-in-7 : goal.returns-in-7
unfolding ref_of ref_at same_z
returns-in-7 c = grind (arith, to_z-of_z)

pub returns-in_default : goal.returns-in_default
unfolding ref_of ref_at same_z
returns-in_default c = grind (arith, to_z-of_z)
