-- `rules::is_broken` meets its contract. Assumes nothing.
use mathlib.Core.Path.{◌∙◌}
use Rattle.rules.specs.Rules.{is_broken}
use Rattle.rules.proofs.is_broken.Goals as goal

pub returns-in-Reference : goal.returns-in-Reference
unfolding is_broken
returns-in-Reference c = c.dangles.ensures ∙ rw c.in-Reference.is

pub returns-in-Loop : goal.returns-in-Loop
unfolding is_broken
returns-in-Loop c = c.loops.ensures ∙ rw c.in-Loop.is

pub returns-in-Use : goal.returns-in-Use
unfolding is_broken
returns-in-Use c = c.misfits.ensures ∙ rw c.in-Use.is

pub returns-in-Align : goal.returns-in-Align
unfolding is_broken
returns-in-Align c = c.breaks_align.ensures ∙ rw c.in-Align.is

pub returns-in-Long : goal.returns-in-Long
unfolding is_broken
returns-in-Long c = c.is_long.ensures ∙ rw c.in-Long.is

pub returns-in-Outlasts : goal.returns-in-Outlasts
unfolding is_broken
returns-in-Outlasts c = c.breaks_outlasts.ensures ∙ rw c.in-Outlasts.is
