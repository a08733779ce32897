-- `output::fill_from` meets its contract. Assumes nothing.
use Rattle.std.proofs.Common.{arith}
use Rattle.output.proofs.Clear.{clear-turn, clear-end}
use Rattle.output.proofs.fill_from.Goals as goal

pub loop-i-preserved : goal.loop-i-preserved
loop-i-preserved g c = clear-turn c.args.value _ _ c.loop-i.invariant (omega (arith, c.loop-i.invariant.long))

pub returns : goal.returns
returns g c = clear-end c.args.value _ _ c.loop-i.invariant (omega (arith, c.loop-i.invariant.long))
