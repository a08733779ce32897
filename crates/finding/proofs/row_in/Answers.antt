-- `finding::row_in` meets its contract. Assumes nothing.
use Rattle.std.proofs.Common.{◌*◌, ◌≤◌, arith}
use Rattle.finding.proofs.Noting.{begins-below}
use Rattle.finding.proofs.row_in.Goals.{After-from}
use Rattle.finding.proofs.row_in.Goals as goal

-- where the group begins, from the base on
begins : (c : After-from) → c.from.result * c.group_of-size.result ≤ 65535 * 1000001
begins c = begins-below _ c.args.mark c.group_of-size.ensures c.from.ensures (omega arith)

pub overflow_mul-from : goal.overflow_mul-from
overflow_mul-from c = omega (arith, begins c)

pub overflow_add-from : goal.overflow_add-from
overflow_add-from c = omega (arith, begins c)
