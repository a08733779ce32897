-- `said::duration_of` meets its contract. Assumes nothing.
use Rattle.std.proofs.Common.{◌∙◌, rules}
use Rattle.said.specs.Said.{duration_of, steps_of}
use Rattle.said.proofs.Saying.{duration-13}
use Rattle.said.proofs.duration_of.Goals as goal

pub returns-in-V13 : goal.returns-in-V13
returns-in-V13 c = c.delay_of.ensures ∙ duration-13 _ _ _ _ _ c.in-V13.is

pub returns-in-V14 : goal.returns-in-V14
unfolding duration_of steps_of
returns-in-V14 c = search rules
