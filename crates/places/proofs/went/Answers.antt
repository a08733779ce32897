-- `places::went` meets its contract. Assumes nothing.
use mathlib.Core.Path.{refl}
use Rattle.places.proofs.went.Goals as goal

pub returns : goal.returns
returns c = refl
