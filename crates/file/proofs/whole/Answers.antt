-- `file::whole` meets its contract. Assumes nothing.
use mathlib.Core.Path.{refl}
use Rattle.file.specs.Rows.{answer_of}
use Rattle.file.proofs.whole.Goals as goal

pub returns : goal.returns
unfolding answer_of
returns c = refl
