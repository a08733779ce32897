-- `durations::uses_in` meets its contract. Assumes nothing.
use Rattle.std.proofs.Common.{arith}
use Rattle.durations.proofs.Using.{count-start, count_turn, count-end, use-few}
use Rattle.durations.proofs.uses_in.Goals as goal

pub loop-k-init : goal.loop-k-init
loop-k-init c = count-start _ _ _

pub overflow_add-count : goal.overflow_add-count
overflow_add-count c = omega (arith, c.loop-k.invariant.few, use-few c.args.rows.now c.args.n c.loop-k.k, c.use_count-count.ensures, c.loop-k-test.true, c.ranges.m)

pub loop-k-preserved : goal.loop-k-preserved
loop-k-preserved c = count_turn _ _ _ _ _ c.loop-k.invariant c.loop-k-test.true _ c.use_count-count.ensures

pub returns : goal.returns
returns c = count-end _ _ _ _ _ c.loop-k.invariant c.loop-k-test.false
