-- `grammar::value_part` meets its contract. Assumes nothing.
use mathlib.Core.Path.{◌∙◌}
use Rattle.grammar.specs.Definitions.{value_part}
use Rattle.grammar.proofs.value_part.Goals as goal

pub returns : goal.returns
unfolding value_part
returns c = c.trim.ensures ∙ rw c.next_field-key.ensures
