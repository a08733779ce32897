-- `said::said_row` meets its contract. Assumes nothing.
use Rattle.std.proofs.Common.{sym, ◌∙◌}
use Rattle.signed.proofs.Machine.{rd-at}
use Rattle.sayable.specs.Sayable.{is_kind}
use Rattle.said.proofs.Saying.{said-block, said-other}
use Rattle.said.proofs.said_row.Goals as goal

pub returns-then-is_kind : goal.returns-then-is_kind
unfolding is_kind
returns-then-is_kind c = said-block _ _ _ _ _ (sym c.is_kind.ensures ∙ c.if-is_kind.true) _ c.numbers_at-cells.ensures _ (rd-at _ c.duration_number.type_inv ∙ c.duration_number.ensures)

pub returns-else-is_kind : goal.returns-else-is_kind
unfolding is_kind
returns-else-is_kind c = said-other _ _ _ _ _ (sym c.is_kind.ensures ∙ c.if-is_kind.false) _ c.numbers_at-cells.ensures
