-- `references::number_misses` meets its contract. Assumes nothing.
use Rattle.std.proofs.Common.{arith}
use Rattle.std.proofs.lemmas.Grind.{common_steps}
use Rattle.std.proofs.lemmas.Int.{to_z-of_z}
use Rattle.signed.specs.Signed.{same_z}
use Rattle.references.specs.References.{misses_of, misses_at}
use Rattle.references.proofs.number_misses.Goals as goal

pub returns-then-id-eq0 : goal.returns-then-id-eq0
unfolding misses_of misses_at same_z
returns-then-id-eq0 c = grind (arith, common_steps)

pub returns-then-class-ne0 : goal.returns-then-class-ne0
unfolding misses_of misses_at same_z
returns-then-class-ne0 c = grind (arith, common_steps, to_z-of_z)

pub returns-else-class-ne0 : goal.returns-else-class-ne0
unfolding misses_of misses_at same_z
returns-else-class-ne0 c = grind (arith, common_steps)
