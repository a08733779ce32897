-- `rows::quick_block` meets its contract: what was read is of the line, and the rest of the line is still to be read (`Blocking`). Assumes nothing.
use Rattle.rows.proofs.Blocks.{Blocking}
use Rattle.rows.proofs.quick_block.Given as goal

abbrev pub invariant-loop-j : goal.invariant-loop-j
invariant-loop-j l = Blocking l.edition l.text l.at l.cells l.i l.j
