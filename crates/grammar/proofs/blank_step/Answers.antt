-- `grammar::blank_step` meets its contract: each place by its own case. Assumes nothing.
use Rattle.grammar.specs.Steps.{blank_step}
use Rattle.places.specs.Places.{went_of}
use Rattle.places.proofs.Answers.{told}
use mathlib.Core.Path.{ap, ◌∙◌}
use Rattle.grammar.proofs.blank_step.Goals as goal

pub returns-in-Start : goal.returns-in-Start
unfolding blank_step
returns-in-Start c = told (blank_step _) c.went.ensures c.before.in-Start.is

pub returns-in-Version : goal.returns-in-Version
unfolding blank_step
returns-in-Version c = told (blank_step _) c.went-in-Version.ensures c.before.in-Version.is

pub returns-in-Section : goal.returns-in-Section
unfolding blank_step
returns-in-Section c = told (blank_step _) c.went-in-Section.ensures c.before.in-Section.is

pub returns-in-Extensions : goal.returns-in-Extensions
unfolding blank_step
returns-in-Extensions c = told (blank_step _) c.went-in-Extensions.ensures c.before.in-Extensions.is

pub returns-in-Head : goal.returns-in-Head
unfolding blank_step
returns-in-Head c = told (blank_step _) c.refused.ensures c.before.in-Head.is

pub returns-in-Values : goal.returns-in-Values
unfolding blank_step
returns-in-Values c = told (blank_step _) (c.went-in-Values.ensures ∙ ap went_of c.moved.ensures) c.before.before.in-Values.is

pub returns-in-Signature : goal.returns-in-Signature
unfolding blank_step
returns-in-Signature c = told (blank_step _) c.went-in-Signature.ensures c.before.in-Signature.is
