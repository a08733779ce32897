-- `expanding::take_repeat` meets its contract: the same value once more, or one that is fresh. Assumes nothing.
use mathlib.Core.Path.{sym, ◌∙◌}
use Rattle.signed.proofs.Machine.{rd-is}
use Rattle.expanding.proofs.Moves.{repeat-end, repeat-faulty, repeat-other, repeat-same}
use Rattle.expanding.proofs.take_repeat.Goals as goal

pub returns-then-same_decimal : goal.returns-then-same_decimal
returns-then-same_decimal c = repeat-same _ _ _ _ _ _ _ _ (rw c.in-Value.is at c.next_value.ensures) _ (sym c.same_decimal.ensures ∙ c.if-same_decimal.true) (rw (rd-is c.ranges.sum) at c.take_pair.ensures)

pub returns-else-same_decimal : goal.returns-else-same_decimal
returns-else-same_decimal c = rw (rd-is c.ranges.sum) (repeat-other _ _ _ _ _ _ _ _ (rw c.in-Value.is at c.next_value.ensures) _ (sym c.same_decimal.ensures ∙ c.if-same_decimal.false) c.requires)

pub returns-in-End : goal.returns-in-End
returns-in-End c = repeat-end _ _ _ _ _ _ _ (rw c.in-End.is at c.next_value.ensures)

pub returns-in-Bad : goal.returns-in-Bad
returns-in-Bad c = repeat-faulty _ _ _ _ _ _ _ (rw c.in-Bad.is at c.next_value.ensures)
