-- `grammar::lines_step` meets its contract: each kind of lines by its own case. Assumes nothing.
use Rattle.grammar.specs.Steps.{lines_step}
use Rattle.places.proofs.Answers.{told}
use Rattle.grammar.proofs.lines_step.Goals as goal

pub returns-in-None : goal.returns-in-None
unfolding lines_step
returns-in-None c = told (lines_step _ _ _) c.refused.ensures c.before.in-None.is

pub returns-in-Definitions : goal.returns-in-Definitions
unfolding lines_step
returns-in-Definitions c = told (lines_step _ _ _) c.definition_step.ensures c.before.in-Definitions.is

pub returns-in-Rows : goal.returns-in-Rows
unfolding lines_step
returns-in-Rows c = told (lines_step _ _ _) c.row_step.ensures c.before.before.in-Rows.is

pub returns-in-Shapes : goal.returns-in-Shapes
unfolding lines_step
returns-in-Shapes c = told (lines_step _ _ _) c.head_step.ensures c.before.in-Shapes.is
