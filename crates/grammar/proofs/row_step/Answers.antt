-- `grammar::row_step` meets its contract. Assumes nothing.
use mathlib.Core.Path.{◌∙◌}
use Rattle.grammar.proofs.Answers.{row-given, row-refused}
use Rattle.grammar.proofs.row_step.Goals as goal

pub returns-in-Some : goal.returns-in-Some
returns-in-Some c = c.gave.ensures ∙ row-given _ _ _ _ _ c.read_row.ensures _ c.in-Some.is

pub returns-in-None : goal.returns-in-None
returns-in-None c = c.refused.ensures ∙ row-refused _ _ _ _ _ c.read_row.ensures c.in-None.is
