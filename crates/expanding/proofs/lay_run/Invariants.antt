-- `expanding::lay_run` meets its contract. The loop's invariant: what is left of the run, from the sum so far, gives what the whole run gives. Assumes nothing.
use Prim.Native.Nat.{ℕ, ◌+◌, ◌-◌, ◌≤◌}
use mathlib.Core.List.{List}
use mathlib.Core.Path.{◌≡◌}
use lib.IntN.{ℤ}
use lib.ListN.{length}
use Rattle.numeral.specs.declared.Decimal.{Decimal}
use Rattle.expanding.specs.Expand.{Trace, repeated, sums_of}
use Rattle.expanding.specs.Inside.{judged}
use Rattle.expanding.proofs.lay_run.Given as goal

-- where the loop stands: k samples are laid, s is the sum, and what is left of the run gives the whole
pub record Running (num : ℕ) (l : List ℤ) (at n : ℕ) (sum : ℤ) (d : Decimal) (m : List ℤ) (s : ℤ) (k : ℕ) : Type 0 where
  pub fits : at + n ≤ num
  pub inside : k ≤ n
  pub long : length m ≡ length l
  pub same : (t : Trace Decimal) → judged num l at (sums_of sum (repeated n d t)) ≡ judged num m (at + k) (sums_of s (repeated (n - k) d t))

abbrev pub invariant-loop-k : goal.invariant-loop-k
invariant-loop-k l = Running l.num l.initial.samples l.at l.n l.sum l.d l.samples l.s l.k
