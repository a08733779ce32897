-- `blocks::has_triggers` meets its contract. The loop's invariant: the first trigger is the first of those that are left. Assumes nothing.
use Rattle.std.proofs.Common.{◌-◌, ◌≡◌}
use Rattle.tables.specs.Tables.{first_such}
use Rattle.blocks.specs.Inside.{is_trigger}
use Rattle.blocks.proofs.has_triggers.Given as goal

abbrev pub invariant-loop-k : goal.invariant-loop-k
invariant-loop-k l = first_such (is_trigger l.rows) l.k (l.n - l.k) ≡ first_such (is_trigger l.rows) 0 l.n
