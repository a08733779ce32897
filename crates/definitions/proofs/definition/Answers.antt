-- `definitions::definition` meets its contract. Assumes nothing.
use mathlib.Core.Path.{sym, ap, ◌∙◌}
use lib.ListN.{length}
use Rattle.definitions.specs.Definitions.{definition_of}
use Rattle.definitions.proofs.Seeking.{either_first, either_second}
use Rattle.definitions.proofs.definition.Goals as goal

pub returns-then-value-eq0 : goal.returns-then-value-eq0
unfolding definition_of
returns-then-value-eq0 c = c.site_definition.ensures ∙ either_second _ _ (sym (ap length c.file_definition-value.ensures) ∙ c.if-value-eq0.true)

pub returns : goal.returns
unfolding definition_of
returns c = c.file_definition-value.ensures ∙ either_first _ _ (λ e. c.if-value-eq0.false (ap length c.file_definition-value.ensures ∙ e))
