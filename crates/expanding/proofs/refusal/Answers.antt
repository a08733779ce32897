-- `expanding::refusal` meets its contract: by cases on the count. Assumes nothing.
use mathlib.Core.Path.{sym, ap, ◌∙◌}
use Rattle.expanding.specs.Inside.{refusal_of}
use Rattle.expanding.proofs.refusal.Goals as goal

pub returns-in-Some : goal.returns-in-Some
unfolding refusal_of
returns-in-Some c = ap refusal_of (sym c.in-Some.is ∙ c.count_values.ensures)

pub returns-in-None : goal.returns-in-None
unfolding refusal_of
returns-in-None c = ap refusal_of (sym c.in-None.is ∙ c.count_values.ensures)
