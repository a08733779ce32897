-- `definitions::defines` meets its contract. Assumes nothing.
use mathlib.Core.Path.{◌∙◌}
use Rattle.grammar.specs.Definitions.{key_of}
use Rattle.definitions.proofs.defines.Goals as goal

pub returns-then-is_defined : goal.returns-then-is_defined
unfolding key_of
returns-then-is_defined c = c.same.ensures ∙ rw (← c.is_defined.ensures, c.if-is_defined.true, c.field.ensures)

pub returns-else-is_defined : goal.returns-else-is_defined
unfolding key_of
returns-else-is_defined c = c.if-is_defined.false ∙ rw (← c.is_defined.ensures, c.if-is_defined.false)
