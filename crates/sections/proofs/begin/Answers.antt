-- `sections::begin` meets its contract. Assumes nothing.
use mathlib.Core.Path.{◌∙◌}
use Rattle.sections.proofs.begin.Goals as goal

pub returns : goal.returns
returns c = c.went.ensures ∙ rw c.moved-next.ensures
