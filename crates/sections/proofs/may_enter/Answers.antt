-- `sections::may_enter` meets its contract. Assumes nothing.
use mathlib.Core.Path.{sym, ◌∙◌}
use Rattle.sections.proofs.Sections.{section-known}
use Rattle.sections.proofs.Answers.{enter-had, enter-not-had}
use Rattle.sections.proofs.may_enter.Goals as goal

pub returns-then-not-has_section : goal.returns-then-not-has_section
returns-then-not-has_section c = enter-not-had _ _ (sym c.has_section.ensures ∙ c.if-not-has_section.true)

pub bounds-st-k : goal.bounds-st-k
bounds-st-k c = section-known _ _ (sym c.has_section.ensures ∙ c.if-not-has_section.false)

pub returns : goal.returns
returns c = enter-had _ _ (sym c.has_section.ensures ∙ c.if-not-has_section.false)
