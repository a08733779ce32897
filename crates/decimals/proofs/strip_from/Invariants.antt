-- `decimals::strip_from` meets its contract. The loop's invariant: stripping goes on to the same answer. Assumes nothing.
use Prim.Native.Nat.{ℕ, ◌+◌, ◌≤◌, ◌<◌, ◌^◌}
use mathlib.Core.Path.{◌≡◌}
use Rattle.decimals.specs.Decimal.{strip_from}
use Rattle.decimals.proofs.strip_from.Given as goal

pub record Stripping (v z w k : ℕ) : Type 0 where
  pub some : 1 ≤ w
  pub fits : w + k < 2 ^ 64
  pub same : strip_from w k ≡ strip_from v z

abbrev pub invariant-loop-w : goal.invariant-loop-w
invariant-loop-w l = Stripping l.v l.z l.w l.k

abbrev pub decreases-loop-w : goal.decreases-loop-w
decreases-loop-w l = l.w
