-- `grammar::value_step` meets its contract. Assumes nothing.
use mathlib.Core.Path.{sym, ◌∙◌}
use Rattle.grammar.specs.Steps.{value_row}
use Rattle.places.proofs.Answers.{told}
use Rattle.shape.proofs.Items.{item-plain}
use Rattle.grammar.proofs.value_step.Goals as goal

pub returns-in-Value : goal.returns-in-Value
unfolding value_row
returns-in-Value c = told (value_row _) c.went.ensures (item-plain _ c.requires.line_value c.requires.line_value_2 ∙ sym c.plain_item.ensures ∙ c.in-Value.is)

pub returns-in-Skipped : goal.returns-in-Skipped
unfolding value_row
returns-in-Skipped c = told (value_row _) c.went-in-Skipped.ensures (item-plain _ c.requires.line_value c.requires.line_value_2 ∙ sym c.plain_item.ensures ∙ c.in-Skipped.is)

pub returns-in-Bad : goal.returns-in-Bad
unfolding value_row
returns-in-Bad c = told (value_row _) c.refused.ensures (item-plain _ c.requires.line_value c.requires.line_value_2 ∙ sym c.plain_item.ensures ∙ c.in-Bad.is)
