-- `grammar::read_line` meets its contract: a row at once where the file stands among rows, else as other lines are read. Assumes nothing.
use Rattle.grammar.proofs.ReadLines.{read-row}
use Rattle.grammar.proofs.read_line.Goals as goal

pub returns-in-Some : goal.returns-in-Some
returns-in-Some c = read-row _ _ _ _ _ _ c.in-Section.is c.in-Rows.is _ c.line_row-line.ensures _ c.in-Some.is _ c.gave.ensures
