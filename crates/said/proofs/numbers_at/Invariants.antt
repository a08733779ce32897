-- `said::numbers_at`: the loop copies (`Copying`). Assumes nothing.
use Rattle.said.proofs.Saying.{Copying}
use Rattle.said.proofs.numbers_at.Given as goal

abbrev pub invariant-loop-c : goal.invariant-loop-c
invariant-loop-c l = Copying l.rows l.k l.cells l.c
