-- `shape::cut_item` meets its contract: LINE refuses no short clean line. Assumes nothing.
use native.Mathlib.Omega.{arith}
use Rattle.text.proofs.Marks.{breaks-clean}
use Rattle.shape.proofs.cut_item.Goals as goal

pub clean_item-requires : goal.clean_item-requires
clean_item-requires c = breaks-clean _ (omega arith) _ c.requires c.if-clean.true
