-- `expanding::lay_plain` meets its contract. The loop's invariant: what is left of the values, from here on, gives the whole. Assumes nothing.
use Prim.Native.Nat.{ℕ, ◌-◌, ◌≤◌}
use mathlib.Core.List.{List}
use mathlib.Core.Path.{◌≡◌}
use lib.IntN.{ℤ}
use lib.ListN.{length}
use Rattle.expanding.specs.Expand.{plain_of}
use Rattle.text.specs.Lines.{lines_of}
use Rattle.shape.specs.Stored.{all_sound, values_of, values_at}
use Rattle.expanding.specs.Inside.{sound_at, judged, soundly}
use Rattle.expanding.proofs.lay_plain.Given as goal

-- where the loop stands: what is left of the values gives the whole
pub record Laying (text : List ℕ) (num : ℕ) (l m : List ℤ) (from at : ℕ) : Type 0 where
  pub due : at ≤ num
  pub long : length m ≡ length l
  pub same : soundly (sound_at text from) (judged num m at (plain_of (values_at text from))) ≡ soundly (all_sound (lines_of text)) (judged num l 0 (plain_of (values_of text)))

abbrev pub invariant-loop-d : goal.invariant-loop-d
invariant-loop-d l = Laying l.stored l.num l.initial.samples l.samples l.from l.at

abbrev pub decreases-loop-d : goal.decreases-loop-d
decreases-loop-d l = length l.stored - l.from
