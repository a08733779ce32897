-- `rules::breaks_align` meets its contract. Assumes nothing.
use mathlib.Core.Path.{◌∙◌}
use Rattle.rules.specs.Rules.{align_broken}
use Rattle.rules.proofs.breaks_align.Goals as goal

pub returns-in-V13 : goal.returns-in-V13
unfolding align_broken
returns-in-V13 c = rw c.in-V13.is

pub returns-in-V14 : goal.returns-in-V14
unfolding align_broken
returns-in-V14 c = c.misaligned.ensures ∙ rw c.in-V14.is
