-- `said::put_rows` meets its contract. Assumes nothing.
use Rattle.std.proofs.Common.{sym, arith}
use lib.Seq.{length-take-le}
use Rattle.durations.specs.Durations.{FirstUsed}
use Rattle.said.proofs.put_rows.Goals as goal

pub slice_bounds-uses-end : goal.slice_bounds-uses-end
slice_bounds-uses-end c = let u = c.list_for-count in sym (length-take-le _ _ (omega (arith, u.ensures.upper_bound, u.auto.list)))

pub invariant_of-uses : goal.invariant_of-uses
unfolding FirstUsed
invariant_of-uses c = record { first_used = c.list_for-count.ensures.first_used }
