-- `decimals::gather` meets its contract. The loop's invariant: gathering goes on from i to the same answer. Assumes nothing.
use Prim.Native.Nat.{ℕ, ◌≤◌, ◌<◌}
use mathlib.Core.List.{List}
use mathlib.Core.Path.{◌≡◌}
use lib.ListN.{length, drop}
use Rattle.decimals.specs.Inside.{gather_of, large}
use Rattle.decimals.proofs.gather.Given as goal

-- what is known where the loop stands at i with the number w and k zeros, and its laws
pub record State (v z : ℕ) (s : List ℕ) (at w k i : ℕ) : Type 0 where
  pub inside : i ≤ length s
  pub small : w < large
  pub count : k ≤ i
  pub same : gather_of w k i (drop i s) ≡ gather_of v z at (drop at s)

abbrev pub invariant-loop-i : goal.invariant-loop-i
invariant-loop-i l = State l.v l.z l.s l.at l.w l.k l.i
