-- `expanding::expand` meets its contract: what is lent is cleared as the answer says. Assumes nothing.
use mathlib.Core.Path.{refl}
use native.Mathlib.Omega.{arith}
use Rattle.expanding.proofs.Answers.{cleared}
use Rattle.expanding.proofs.expand.Goals as goal

pub returns : goal.returns
returns c = cleared _ _ _ _ _ _ _ (omega arith) c.lay_all-laid.ensures _ refl (rw c.used_of.ensures at c.clear_numbers.ensures)
