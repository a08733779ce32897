-- `expanding::take_pair` meets its contract: a count that is none, or a run of one more than it. Assumes nothing.
use mathlib.Core.Path.{sym, ◌∙◌}
use native.Mathlib.Omega.{arith}
use Rattle.signed.proofs.Machine.{rd-is, rd-at}
use Rattle.numeral.proofs.Outcomes.{whole-range}
use Rattle.expanding.proofs.Moves.{pair_end, pair-faulty, pair-uncounted, pair-value, pair-beyond}
use Rattle.expanding.proofs.take_pair.Goals as goal

pub overflow_add-more : goal.overflow_add-more
overflow_add-more c = omega (arith, (whole-range _ 0 0 1000000 _ (sym c.whole_worth.ensures ∙ c.in-Some.is)).1)

pub overflow_add-at : goal.overflow_add-at
overflow_add-at c = omega (arith, c.lay_run.ensures.fits _ c.in-Some-lay_run.is)

pub returns-in-Some-lay_run : goal.returns-in-Some-lay_run
returns-in-Some-lay_run c = pair-value _ _ _ _ _ _ _ _ _ (rw c.in-Value.is at c.next_value.ensures) _ _ (sym c.whole_worth.ensures ∙ c.in-Some.is) (rw (rd-is c.ranges.sum) at c.lay_run.ensures) c.in-Some-lay_run.is
    (rw (rd-at c.in-Some-lay_run.s (omega arith)) at c.next_fresh.ensures)

pub returns-in-None-lay_run : goal.returns-in-None-lay_run
returns-in-None-lay_run c = pair-beyond _ _ _ _ _ _ _ _ _ (rw c.in-Value.is at c.next_value.ensures) _ (sym c.whole_worth.ensures ∙ c.in-Some.is) (rw (rd-is c.ranges.sum) at c.lay_run.ensures) c.in-None-lay_run.is

pub returns-in-None : goal.returns-in-None
returns-in-None c = pair-uncounted _ _ _ _ _ _ _ _ _ (rw c.in-Value.is at c.next_value.ensures) (sym c.whole_worth.ensures ∙ c.in-None.is)

pub returns-in-End : goal.returns-in-End
returns-in-End c = pair_end _ _ _ _ _ _ _ (rw c.in-End.is at c.next_value.ensures)

pub returns-in-Bad : goal.returns-in-Bad
returns-in-Bad c = pair-faulty _ _ _ _ _ _ _ (rw c.in-Bad.is at c.next_value.ensures)
