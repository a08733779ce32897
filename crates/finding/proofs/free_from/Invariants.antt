-- `finding::free_from` meets its contract. The loop's invariant: the places that are left give the whole. Assumes nothing.
use Rattle.std.proofs.Common.{◌-◌, ◌≡◌}
use Rattle.finding.specs.Hints.{free_from}
use Rattle.finding.proofs.free_from.Given as goal

abbrev pub invariant-loop-tried : goal.invariant-loop-tried
invariant-loop-tried l = free_from l.hints l.at (64 - l._tried) ≡ free_from l.hints l.home 64
