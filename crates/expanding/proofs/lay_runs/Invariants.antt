-- `expanding::lay_runs` meets its contract. The loop's invariant: what comes of the state is what comes of all. Assumes nothing.
use Prim.Native.Nat.{ℕ}
use mathlib.Core.List.{List}
use mathlib.Core.Path.{◌≡◌}
use lib.IntN.{ℤ, pos}
use lib.ListN.{length}
use Rattle.expanding.specs.Expand.{fresh_of, sums_of}
use Rattle.text.specs.Lines.{lines_of}
use Rattle.shape.specs.Stored.{all_sound, values_of}
use Rattle.expanding.specs.Inside.{judged, soundly, resume, weight, Ready}
use Rattle.expanding.specs.declared.State.{State}
use Rattle.expanding.proofs.lay_runs.Given as goal

-- where the loop stands: what comes of the state is what comes of all
pub record Standing (text : List ℕ) (num : ℕ) (l m : List ℤ) (s : State) : Type 0 where
  pub ready : Ready num s
  pub long : length m ≡ length l
  pub same : resume text num m s ≡ soundly (all_sound (lines_of text)) (judged num l 0 (sums_of (pos 0) (fresh_of (values_of text))))

abbrev pub invariant-loop-state : goal.invariant-loop-state
invariant-loop-state l = Standing l.stored l.num l.initial.samples l.samples l.state

abbrev pub decreases-loop-state : goal.decreases-loop-state
decreases-loop-state l = weight l.stored l.state
