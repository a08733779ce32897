-- `again::look_at` meets its contract. Assumes nothing.
use Rattle.std.proofs.Common.{sym, ◌∙◌}
use Rattle.sets.proofs.Passing.{all-kept}
use Rattle.again.proofs.Asking.{again-not, looked-at}
use Rattle.again.proofs.look_at.Goals as goal

pub returns-then-is_asked-clause-value : goal.returns-then-is_asked-clause-value
returns-then-is_asked-clause-value c = looked-at _ _ _ _ _ c.requires (sym c.is_asked.ensures ∙ c.if-is_asked.true) c.keep_row.ensures.value

pub returns-then-is_asked-clause-all_met : goal.returns-then-is_asked-clause-all_met
returns-then-is_asked-clause-all_met c = rw c.keep_row.ensures.set_after (all-kept c.requires)

pub returns-else-is_asked-clause-value : goal.returns-else-is_asked-clause-value
returns-else-is_asked-clause-value c = c.if-is_asked.false ∙ again-not _ _ _ _ _ (sym c.is_asked.ensures ∙ c.if-is_asked.false)
