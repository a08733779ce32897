-- `rows::take_cell` meets its contract: an integer, nothing for an absent column, else a field. Assumes nothing.
use mathlib.Core.Path.{sym, ◌∙◌}
use Rattle.rows.proofs.Cells.{absent-wide}
use Rattle.rows.proofs.Rows.{row-absent}
use Rattle.rows.proofs.take_cell.Goals as goal

pub returns-then-is_absent : goal.returns-then-is_absent
returns-then-is_absent c =
    let a = sym c.is_absent.ensures ∙ c.if-is_absent.true in
    record { wide = absent-wide c.args.kind a; rest = λ ks. row-absent _ ks _ a }
