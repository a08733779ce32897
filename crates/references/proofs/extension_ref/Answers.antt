-- `references::extension_ref` meets its contract: each code by its own arm. Assumes nothing.
use Rattle.std.proofs.Common.{arith}
use Rattle.std.proofs.lemmas.Int.{to_z-of_z}
use Rattle.signed.specs.Signed.{same_z}
use Rattle.references.specs.References.{code_ref, extension_ref}
use Rattle.references.proofs.extension_ref.Goals as goal

pub returns-in-1 : goal.returns-in-1
unfolding code_ref extension_ref same_z
returns-in-1 c = grind (arith, to_z-of_z)

pub returns-in-2 : goal.returns-in-2
unfolding code_ref extension_ref same_z
returns-in-2 c = grind (arith, to_z-of_z)

pub returns-in-3 : goal.returns-in-3
unfolding code_ref extension_ref same_z
returns-in-3 c = grind (arith, to_z-of_z)

pub returns-in_default : goal.returns-in_default
unfolding code_ref extension_ref same_z
returns-in_default c = grind (arith, to_z-of_z)
