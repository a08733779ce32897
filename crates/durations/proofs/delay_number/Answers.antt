-- `durations::delay_number` meets its contract: no more durations are used than there are rows. Assumes nothing.
use Rattle.std.proofs.Common.{arith}
use Rattle.durations.proofs.Using.{uses-few}
use Rattle.durations.proofs.delay_number.Goals as goal

pub overflow_add-result : goal.overflow_add-result
overflow_add-result c = omega (arith, c.uses_in.ensures, c.if-first-n.true, uses-few c.args.rows.now c.args.n 0 c.first_use-first.result, c.ranges.n)
