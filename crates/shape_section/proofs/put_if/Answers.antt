-- `shape_section::put_if` meets its contract. Assumes nothing.
use Rattle.std.proofs.Common.{arith}
use Rattle.output.proofs.Over.{put-none}
use Rattle.shape_section.proofs.Putting.{line-shape, line-none}
use Rattle.shape_section.proofs.put_if.Goals as goal

pub returns-then-is_kind : goal.returns-then-is_kind
returns-then-is_kind c = rw (← line-shape _ _ _ _ c.is_kind.ensures c.if-is_kind.true) c.put_shape.ensures

pub returns : goal.returns
returns c = rw (← line-none _ _ _ _ c.is_kind.ensures c.if-is_kind.false) (put-none (omega arith) (omega arith))
