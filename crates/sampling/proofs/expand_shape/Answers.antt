-- `sampling::expand_shape` meets its contract: a part of the samples is lent and comes back. Assumes nothing.
use Rattle.sampling.proofs.Laying.{shape-laid}
use Rattle.sampling.proofs.expand_shape.Goals as goal

pub returns : goal.returns
returns c = shape-laid _ _ _ _ _ _ c.size_at-num.ensures _ c.size_at.ensures _ c.min-from.ensures _ c.min.ensures _ _ c.expand.ensures _ c.has_failed.ensures
