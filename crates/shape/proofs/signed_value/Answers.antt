-- `shape::signed_value` meets its contract: what is spelt there is the line's one field. Assumes nothing.
use mathlib.Core.Path.{sym, ◌∙◌}
use native.Mathlib.Omega.{arith}
use Rattle.shape.proofs.Spelling.{stands-within, value-behind, value-held}
use Rattle.shape.proofs.signed_value.Goals.{Else-not-stands_at}
use Rattle.shape.proofs.signed_value.Goals as goal

pub pointed-requires : goal.pointed-requires
pointed-requires c =
    let b = value-behind _ _ _ _ c.requires _ c.spell-number.ensures in
    (c.spell-number.ensures.small, omega arith)

pub overflow_add-result : goal.overflow_add-result
overflow_add-result c =
    let w = stands-within _ _ _ (sym c.stands_at.ensures ∙ c.if-not-stands_at.false) in
    omega (arith, w)

pub returns : goal.returns
returns c =
    value-held _ _ _ _ c.requires _ c.spell-number.ensures (omega arith) c.if-stop-at-gt32.false (sym c.stands_at.ensures ∙ c.if-not-stands_at.false) _ _ c.pointed.ensures c.in_ok-d.was
