-- `grammar::listed_step` meets its contract: each kind of rows by its own case. Assumes nothing.
use Rattle.grammar.specs.Steps.{listed_step}
use Rattle.places.proofs.Answers.{told}
use Rattle.grammar.proofs.listed_step.Goals as goal

pub returns-in-Entries : goal.returns-in-Entries
unfolding listed_step
returns-in-Entries c = told (listed_step _ _ _) c.row_step.ensures c.before.in-Entries.is

pub returns-in-Triggers : goal.returns-in-Triggers
unfolding listed_step
returns-in-Triggers c = told (listed_step _ _ _) c.row_step-in-Triggers.ensures c.before.in-Triggers.is

pub returns-in-Labels : goal.returns-in-Labels
unfolding listed_step
returns-in-Labels c = told (listed_step _ _ _) c.label_step.ensures c.before.before.in-Labels.is

pub returns-in-Unknown : goal.returns-in-Unknown
unfolding listed_step
returns-in-Unknown c = told (listed_step _ _ _) c.went.ensures c.before.in-Unknown.is
