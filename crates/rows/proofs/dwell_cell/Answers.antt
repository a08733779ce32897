-- `rows::dwell_cell` meets its contract: a decimal, and what it is worth in ns. Assumes nothing.
use mathlib.Core.Path.{sym, ◌∙◌}
use Rattle.signed.proofs.Machine.{rd-at}
use Rattle.rows.proofs.Cells.{dwell-good, dwell-off, dwell-none}
use Rattle.rows.proofs.dwell_cell.Goals as goal

pub returns : goal.returns
returns c =
    dwell-good _ _ (sym c.read_decimal.ensures ∙ c.in_ok-d.was) _ _ (sym c.whole_worth.ensures ∙ c.in_ok-n.was) (rd-at _ c.with_sign.type_inv ∙ c.with_sign.ensures)

pub returns-in_err-n : goal.returns-in_err-n
returns-in_err-n c =
    c.from_residual-in_err-n.ensures ∙ dwell-off _ _ (sym c.read_decimal.ensures ∙ c.in_ok-d.was) (sym c.whole_worth.ensures ∙ c.in_err-n.was)

pub returns-in_err-d : goal.returns-in_err-d
returns-in_err-d c = c.from_residual.ensures ∙ dwell-none _ (sym c.read_decimal.ensures ∙ c.in_err-d.was)
