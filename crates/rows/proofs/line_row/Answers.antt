-- `rows::line_row` meets its contract: a block in one walk where that does, else the line cut off. Assumes nothing.
use Rattle.rows.proofs.CutRows.{row_told}
use Rattle.rows.proofs.line_row.Goals as goal

pub returns-in-Some : goal.returns-in-Some
returns-in-Some c = row_told _ _ _ c.in-Block.is c.in-Some.ensures
