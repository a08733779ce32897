-- `grammar::step` meets its contract: LINE first. Assumes nothing.
use mathlib.Core.Path.{sym, ◌∙◌}
use Rattle.grammar.proofs.Answers.{line-broken}
use Rattle.grammar.proofs.step.Goals as goal

pub returns-then-breaks_line : goal.returns-then-breaks_line
returns-then-breaks_line c = c.refused.ensures ∙ line-broken _ _ _ (sym c.breaks_line.ensures ∙ c.if-breaks_line.true)

pub step_clean-requires : goal.step_clean-requires
step_clean-requires c = sym c.breaks_line.ensures ∙ c.if-breaks_line.false

pub returns : goal.returns
returns c = c.step_clean.ensures
