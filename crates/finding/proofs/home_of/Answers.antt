-- `finding::home_of` meets its contract. Assumes nothing.
use Rattle.std.proofs.Common.{◌+◌, ◌*◌, ◌%◌, arith, rules}
use Rattle.finding.specs.Hints.{home_of}
use Rattle.finding.proofs.Noting.{home_below}
use Rattle.finding.proofs.home_of.Goals as goal

pub overflow_mul-result : goal.overflow_mul-result
overflow_mul-result c =
    let mixed = (c.unsigned_abs.result % 4294967296 * 2654435769 + c.unsigned_abs-2.result % 16 * 268435456) % 4294967296 in
    omega (arith, home_below _ mixed c.room_of.ensures (omega arith))

pub returns : goal.returns
unfolding home_of
returns c = search rules
