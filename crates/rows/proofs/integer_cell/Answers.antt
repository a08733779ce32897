-- `rows::integer_cell` meets its contract: what 10 digits are worth fits an i64. Assumes nothing.
use mathlib.Core.Path.{sym, ◌∙◌}
use Rattle.signed.proofs.Machine.{rd-at}
use Rattle.rows.proofs.Cells.{integer-good, integer-none}
use Rattle.rows.proofs.integer_cell.Goals as goal

pub returns : goal.returns
returns c =
    integer-good _ _ _ _ c.least_of.ensures c.most_of.ensures _ _ (sym c.read_integer.ensures ∙ c.in_ok-n.was) (rd-at _ c.with_sign.type_inv ∙ c.with_sign.ensures)

pub returns-in_err-n : goal.returns-in_err-n
returns-in_err-n c =
    c.from_residual.ensures ∙ integer-none _ _ _ _ c.least_of.ensures c.most_of.ensures (sym c.read_integer.ensures ∙ c.in_err-n.was)
