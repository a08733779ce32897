-- `sets::mix` meets its contract. Assumes nothing.
use Rattle.std.proofs.Common.{refl}
use Rattle.sets.specs.Sets.{mixed}
use Rattle.sets.proofs.mix.Goals as goal

pub returns : goal.returns
unfolding mixed
returns c = refl
