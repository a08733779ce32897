-- `durations::first_use`: the first such row is the first of those that are left. Assumes nothing.
use Rattle.std.proofs.Common.{◌≡◌, ◌-◌}
use Rattle.tables.specs.Tables.{first_such}
use Rattle.durations.specs.Durations.{is_alike, first_use}
use Rattle.durations.proofs.first_use.Given as goal

abbrev pub invariant-loop-j : goal.invariant-loop-j
invariant-loop-j l = first_such (is_alike l.rows l.k) l.j (l.n - l.j) ≡ first_use l.rows l.n l.k
