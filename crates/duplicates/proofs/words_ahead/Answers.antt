use mathlib.Core.Path.{sym, ◌∙◌}
use Rattle.duplicates.proofs.Beyond.{ahead-keys, ahead-names, ahead_none, ahead-left, ahead-here}
use Rattle.duplicates.proofs.words_ahead.Goals as goal

pub returns-then-not-is_left : goal.returns-then-not-is_left
returns-then-not-is_left c = ahead-keys _ _ _ (sym c.is_left.ensures ∙ c.if-not-is_left.true)

pub returns-then-at-names : goal.returns-then-at-names
returns-then-at-names c = ahead-names _ _ _ (sym c.is_left.ensures ∙ c.if-not-is_left.false) c.if-at-names.true

pub returns-then-names-eq0 : goal.returns-then-names-eq0
returns-then-names-eq0 c = ahead_none _ _ _ (sym c.is_left.ensures ∙ c.if-not-is_left.false) c.if-at-names.false c.if-names-eq0.true

pub returns-then-is_left : goal.returns-then-is_left
returns-then-is_left c = ahead-left _ _ _ (sym c.is_left.ensures ∙ c.if-not-is_left.false) c.if-at-names.false c.if-names-eq0.false (sym c.is_left-2.ensures ∙ c.if-is_left.true)

pub returns : goal.returns
returns c = ahead-here _ _ _ (sym c.is_left.ensures ∙ c.if-not-is_left.false) c.if-at-names.false c.if-names-eq0.false (sym c.is_left-2.ensures ∙ c.if-is_left.false)
