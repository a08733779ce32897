-- `grammar::definition_step` meets its contract. Assumes nothing.
use mathlib.Core.Path.{sym, ap, ◌∙◌}
use lib.ListN.{length}
use Rattle.grammar.proofs.Answers.{defines, defines-not}
use Rattle.grammar.proofs.definition_step.Goals as goal

pub returns-then-value-eq0 : goal.returns-then-value-eq0
returns-then-value-eq0 c = c.refused.ensures ∙ defines-not _ _ (sym (ap length c.value.ensures) ∙ c.if-value-eq0.true)

pub returns : goal.returns
returns c = c.defined.ensures ∙ defines _ _ (λ e. c.if-value-eq0.false (ap length c.value.ensures ∙ e))
