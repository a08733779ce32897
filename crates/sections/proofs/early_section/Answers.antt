-- `sections::early_section` meets its contract. Assumes nothing.
use mathlib.Core.Path.{sym, ◌∙◌}
use Rattle.sections.proofs.Answers.{early-field, early-section}
use Rattle.sections.proofs.early_section.Goals as goal

pub returns-then-may_enter : goal.returns-then-may_enter
returns-then-may_enter c = c.refused.ensures ∙ early-field _ _ (sym c.may_enter.ensures ∙ c.if-may_enter.true)

pub returns : goal.returns
returns c = c.refused-2.ensures ∙ early-section _ _ (sym c.may_enter.ensures ∙ c.if-may_enter.false)
