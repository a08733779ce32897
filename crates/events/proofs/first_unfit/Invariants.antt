-- `events::first_unfit` meets its contract. The loop's invariant: the first such row is the first of those that are left, and what is marked is so.
-- Assumes nothing.
use Rattle.std.proofs.Common.{◌-◌, ◌≡◌}
use Rattle.tables.specs.Tables.{first_such}
use Rattle.events.specs.Use.{misfits_at}
use Rattle.events.specs.Inside.{Known}
use Rattle.events.proofs.first_unfit.Given as goal

abbrev pub invariant-loop-k : goal.invariant-loop-k
invariant-loop-k l =
    let misfits = misfits_at l.rows.numbers.now l.rows.n l.samples in
    record {
      first : first_such misfits l.k (l.rows.n - l.k) ≡ first_such misfits 0 l.rows.n;
      known : Known l.rows.numbers.now l.samples l.first l.marks;
    }
