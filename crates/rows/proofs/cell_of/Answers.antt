-- `rows::cell_of` meets its contract: each kind by its own. Assumes nothing.
use Rattle.rows.specs.Cells.{cell_of}
use Rattle.columns.specs.declared.Kind.TheVariants.{Decimal, Dwell, Absent}
use Rattle.rows.proofs.Cells.{cell_as, cell-whole}
use mathlib.Core.Path.{refl, ◌∙◌}
use Rattle.rows.proofs.cell_of.Goals as goal

pub returns-in-Decimal : goal.returns-in-Decimal
unfolding cell_of
returns-in-Decimal c = cell_as _ Decimal _ _ c.in-Decimal.is c.decimal_cell.ensures

pub returns-in-Dwell : goal.returns-in-Dwell
unfolding cell_of
returns-in-Dwell c = cell_as _ Dwell _ _ c.in-Dwell.is c.dwell_cell.ensures

pub returns-in-Absent : goal.returns-in-Absent
unfolding cell_of
returns-in-Absent c = cell_as _ Absent _ _ c.in-Absent.is refl

pub returns-in_default : goal.returns-in_default
returns-in_default c = c.integer_cell.ensures ∙ cell-whole _ _ c.in_default.not-Decimal c.in_default.not-Dwell c.in_default.not-Absent
