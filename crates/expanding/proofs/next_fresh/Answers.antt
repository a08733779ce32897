-- `expanding::next_fresh` meets its contract: a value that is fresh, the end, or a fault. Assumes nothing.
use Rattle.signed.proofs.Machine.{rd-is}
use Rattle.expanding.proofs.Moves.{begun-end, begun-faulty, begun-value}
use Rattle.expanding.proofs.next_fresh.Goals as goal

pub returns-in-Value : goal.returns-in-Value
returns-in-Value c = rw (rd-is c.ranges.sum) (begun-value _ _ _ _ _ _ (rw c.in-Value.is at c.next_value.ensures))

pub returns-in-End : goal.returns-in-End
returns-in-End c = begun-end _ _ _ _ (rw c.in-End.is at c.next_value.ensures)

pub returns-in-Bad : goal.returns-in-Bad
returns-in-Bad c = begun-faulty _ _ _ _ (rw c.in-Bad.is at c.next_value.ensures)
