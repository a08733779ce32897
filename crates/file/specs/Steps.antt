-- A walk that goes on by one line: the line, what it gives where the file stands, and where the walk stands behind it.
use Rattle.std.specs.Prelude.{ℕ, suc, ◌-◌, ◌≤◌, ◌<◌, ◌≡◌, List, length, take, drop, Option, Some, None}
use Rattle.std.specs.Borrow.{Bor}
use Rattle.text.specs.Lines.{line_at}
use Rattle.places.specs.declared.Stepped.{Stepped}
use Rattle.grammar.specs.Steps.{step_of}
use Rattle.file.specs.declared.Walk.{Walk}

pub record StepIs (file : List ℕ) (walk walk' : Walk) (words : List ℕ) (did : Stepped) : Type 0 where
  pub more : walk.at < length file
  pub cut : words ≡ take ((line_at file walk.at).stop - walk.at) (drop walk.at file)
  pub gave : did ≡ step_of walk.state (suc walk.lines) words
  pub behind : walk' ≡ record { at = (line_at file walk.at).next; lines = suc walk.lines; state = did.next }

-- at the end of the file there is no line, and the walk stands still
abbrev pub SteppedOn : List ℕ → Walk → Option (Bor (List ℕ) × Stepped) → Walk → Type 0
SteppedOn file walk (Some (line, did)) walk' = StepIs file walk walk' line.now did
SteppedOn file walk None walk' = (length file ≤ walk.at) × (walk' ≡ walk)

-- the same of a line that is read where it stands
abbrev pub ReadOn : List ℕ → Walk → Option Stepped → Walk → Type 0
ReadOn file walk (Some did) walk' = StepIs file walk walk' (take ((line_at file walk.at).stop - walk.at) (drop walk.at file)) did
ReadOn file walk None walk' = (length file ≤ walk.at) × (walk' ≡ walk)
