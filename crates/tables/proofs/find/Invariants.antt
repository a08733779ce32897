-- `tables::find` meets its contract. The loop's invariant: the first row is the first of those that are left. Assumes nothing.
use Rattle.std.proofs.Common.{◌-◌, ◌≡◌}
use Rattle.tables.specs.Tables.{first_such, is_row_of, first_row}
use Rattle.tables.proofs.find.Given as goal

abbrev pub invariant-loop-k : goal.invariant-loop-k
invariant-loop-k l = first_such (is_row_of l.rows l.class l.id) l.k (l.n - l.k) ≡ first_row l.rows l.n l.class l.id
