-- `shape_section::put_shape_section` meets its contract. Assumes nothing.
use Rattle.std.proofs.Common.{arith}
use Rattle.output.proofs.Over.{put-none}
use Rattle.shape_section.proofs.Putting.{shapes-some, shapes-none}
use Rattle.shape_section.specs.Shapes.{shapes_head}
use Rattle.shape_section.proofs.put_shape_section.Goals as goal

pub returns-then-has_kind : goal.returns-then-has_kind
unfolding shapes_head
returns-then-has_kind c = shapes-some _ _ _ _ c.has_kind.ensures c.if-has_kind.true c.put_bytes-body.ensures c.put_shapes.ensures

pub returns : goal.returns
returns c = rw (← shapes-none _ _ _ _ c.has_kind.ensures c.if-has_kind.false) (put-none (omega arith) (omega arith))
