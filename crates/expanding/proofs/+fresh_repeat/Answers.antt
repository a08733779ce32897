use Prim.Native.Nat.{ℕ, ◌<◌}
use mathlib.Core.Path.{◌≡◌}
use native.Mathlib.Omega.{arith}
use Rattle.signed.proofs.Machine.{rd-is, rd-at}
use Rattle.expanding.specs.Inside.{weight}
use Rattle.expanding.proofs.Moves.{went_on, went-as, fresh-less, fresh-ready, fresh-value, fresh-beyond}
use Rattle.expanding.proofs.+fresh_repeat.Goals as goal

-- a number below the measure is below its value
fall : {n m t : ℕ} → n < m → m ≡ t → n < t
fall h e = rw (← e) h

pub fresh-returns-in_default : goal.fresh-returns-in_default
fresh-returns-in_default t c = fresh-beyond _ _ _ _ _ _ _ (rw (rd-is c.ranges.sum) at c.lay_run.ensures) c.in_default.is

pub fresh-returns-then-open-eq0 : goal.fresh-returns-then-open-eq0
fresh-returns-then-open-eq0 t c =
    rw (rd-at c.in-Some.s (omega arith)) (fresh-value _ _ _ _ _ _ _ _ (rw (rd-is c.ranges.sum) at c.lay_run.ensures) c.in-Some.is)

pub fresh-returns : goal.fresh-returns
fresh-returns t c =
    went_on (fresh-value _ _ _ _ _ _ _ _ (rw (rd-is c.ranges.sum) at c.lay_run.ensures) c.in-Some.is) (rw (rd-at c.in-Some.s (omega arith)) at c.repeat.ensures)

pub repeat-fresh-requires : goal.repeat-fresh-requires
unfolding weight
repeat-fresh-requires t c =
    let w = went-as _ c.in-Fresh.is (rw (rd-is c.ranges.sum) at c.take_repeat-state.ensures) in
    (fall (fresh-less w) c.decreases, fresh-ready w)
