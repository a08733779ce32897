-- `expanding::are_samples` meets its contract: by cases on the edition. Assumes nothing.
use mathlib.Core.Path.{ap, ◌∙◌}
use Rattle.shape.specs.Samples.{is_plain}
use Rattle.expanding.proofs.are_samples.Goals as goal

pub returns-in-V13 : goal.returns-in-V13
unfolding is_plain
returns-in-V13 c = rw c.in-V13.is

pub returns-in-V14 : goal.returns-in-V14
returns-in-V14 c = c.is_plain.ensures ∙ ap (is_plain _ _) c.lines_hold.ensures
