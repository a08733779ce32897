-- `finding::first_event` meets its contract. The loop's invariant: the first such row is the first of those that are left. Assumes nothing.
use Rattle.std.proofs.Common.{◌-◌, ◌≡◌}
use Rattle.tables.specs.Tables.{first_such}
use Rattle.finding.specs.Hints.{is_event, first_event}
use Rattle.finding.proofs.first_event.Given as goal

abbrev pub invariant-loop-k : goal.invariant-loop-k
invariant-loop-k l = first_such (is_event l.rows) l.k (l.n - l.k) ≡ first_event l.rows l.n
