-- `rules::first_other` meets its contract. The loop's invariant: the first such row is the first of those that are left. Assumes nothing.
use Rattle.std.proofs.Common.{◌-◌, ◌≡◌}
use Rattle.tables.specs.Tables.{first_such}
use Rattle.rules.specs.Inside.{breaks_other}
use Rattle.rules.proofs.first_other.Given as goal

abbrev pub invariant-loop-k : goal.invariant-loop-k
invariant-loop-k l =
    let n = l.timing.rows.n in
    let breaks = breaks_other l.edition l.rasters l.timing.rows.numbers.now n l.samples in
    first_such breaks l.k (n - l.k) ≡ first_such breaks 0 n
