-- `rows::gather_line` meets its contract: the digits so far are of the line, and are gathered as in the line by itself (`Walking`). Assumes nothing.
use Rattle.rows.proofs.Numbers.{Walking}
use Rattle.rows.proofs.gather_line.Given as goal

abbrev pub invariant-loop-i : goal.invariant-loop-i
invariant-loop-i l = Walking l.text l.start l.v l.i
