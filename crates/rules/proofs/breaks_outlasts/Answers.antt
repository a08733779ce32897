-- `rules::breaks_outlasts` meets its contract. Assumes nothing.
use mathlib.Core.Path.{◌∙◌}
use Rattle.rules.specs.Rules.{outlasts_broken}
use Rattle.rules.proofs.breaks_outlasts.Goals as goal

pub returns-in-V13 : goal.returns-in-V13
unfolding outlasts_broken
returns-in-V13 c = rw c.in-V13.is

pub returns-in-V14 : goal.returns-in-V14
unfolding outlasts_broken
returns-in-V14 c = c.outlasts.ensures ∙ rw c.in-V14.is
