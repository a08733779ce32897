-- `definitions::repeats` meets its contract: a key is named where its value is not empty. Assumes nothing.
use mathlib.Core.Path.{sym, ◌∙◌}
use Rattle.grammar.specs.Definitions.{key_of}
use Rattle.definitions.specs.Definitions.{site_definitions}
use Rattle.definitions.proofs.Seeking.{named-sought}
use Rattle.definitions.proofs.repeats.Goals as goal

pub returns-then-is_defined : goal.returns-then-is_defined
unfolding key_of site_definitions
returns-then-is_defined c = rw (← c.is_defined.ensures, c.if-is_defined.true, c.site_definition.ensures, c.field.ensures) (sym (named-sought _ _))

pub returns-else-is_defined : goal.returns-else-is_defined
unfolding key_of site_definitions
returns-else-is_defined c = c.if-is_defined.false ∙ rw (← c.is_defined.ensures, c.if-is_defined.false)
