-- `chains::exceeds` meets its contract. The loop's invariant: the entries that are left to count give the whole. Assumes nothing.
use Rattle.std.proofs.Common.{◌-◌, ◌≡◌}
use Rattle.chains.specs.Chains.{exceeds_of}
use Rattle.chains.proofs.exceeds.Given as goal

abbrev pub invariant-loop-counted : goal.invariant-loop-counted
invariant-loop-counted l = exceeds_of l.rows.numbers.now l.rows.n (l.left - l._counted) l.at ≡ exceeds_of l.rows.numbers.now l.rows.n l.left l.k
