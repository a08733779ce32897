-- `rows::decimal_cell` meets its contract: the two numbers of a pair. Assumes nothing.
use mathlib.Core.Path.{sym, ◌∙◌}
use Rattle.signed.proofs.Machine.{rd-at}
use Rattle.rows.proofs.Cells.{decimal-good, decimal-none}
use borrow.Author.Rules.{rules}
use Rattle.rows.proofs.decimal_cell.Goals as goal

pub returns : goal.returns
returns c = decimal-good _ _ _ _ (sym c.read_decimal.ensures ∙ c.in_ok-d.was) (rd-at _ (search rules)) (rd-at _ (search rules))

pub returns-in_err-d : goal.returns-in_err-d
returns-in_err-d c = c.from_residual.ensures ∙ decimal-none _ (sym c.read_decimal.ensures ∙ c.in_err-d.was)
