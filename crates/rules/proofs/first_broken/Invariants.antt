-- `rules::first_broken` meets its contract. The loop's invariant: the first such row is the first of those that are left. Assumes nothing.
use Rattle.std.proofs.Common.{◌-◌, ◌≡◌}
use Rattle.tables.specs.Tables.{first_such}
use Rattle.rules.specs.Rules.{is_broken, first_broken}
use Rattle.rules.proofs.first_broken.Given as goal

abbrev pub invariant-loop-k : goal.invariant-loop-k
invariant-loop-k l =
    let rows = l.rows.numbers.now in
    let n = l.rows.n in
    first_such (is_broken l.rule l.edition l.rasters rows n l.samples) l.k (n - l.k) ≡ first_broken l.rule l.edition l.rasters rows n l.samples
