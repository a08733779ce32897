-- `shape::quick_value` meets its contract: behind a minus, or where the line starts. Assumes nothing.
use mathlib.Core.Path.{sym, ◌∙◌}
use native.Mathlib.Omega.{arith}
use Rattle.shape.proofs.Spelling.{stands-within, stands-drop}
use Rattle.shape.proofs.quick_value.Goals.{Then-stands_at}
use Rattle.shape.proofs.quick_value.Goals as goal

pub overflow_add-at : goal.overflow_add-at
overflow_add-at c = let w = stands-within _ _ _ (sym c.stands_at.ensures ∙ c.if-stands_at.true) in omega (arith, w)

pub signed_value-requires : goal.signed_value-requires
signed_value-requires c = record { split = stands-drop _ _ _ (sym c.stands_at.ensures ∙ c.if-stands_at.true); long = omega arith }
