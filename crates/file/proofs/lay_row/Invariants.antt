-- `file::lay_row` meets its contract. The loop lays the numbers of the row that are left (`Storing`). Assumes nothing.
use Prim.Native.Nat.{◌≤◌}
use Rattle.file.proofs.Laying.{Storing}
use Rattle.file.proofs.lay_row.Given as goal

abbrev pub invariant-loop-j : goal.invariant-loop-j
invariant-loop-j l = (l.j ≤ 12) × Storing l.initial.rows l.rows l.cells l.base l.j
