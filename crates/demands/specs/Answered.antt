-- "Every byte string gets an acceptance or a numbered refusal with its line .. After a refusal the lent tables hold zeros throughout".
use Rattle.std.specs.Prelude.{◌≤◌, Bool, true, false, List, ◌≡◌, ℤ, length, Err, Ok}
use Rattle.answers.specs.Answers.{answer_number, rows_used, samples_used}
use Rattle.answers.specs.Outcome.{Answer}
use Rattle.answers.specs.declared.Refusal.{Refusal}
use Rattle.answers.specs.declared.Refusal.TheVariants.{Big, Line, Version, Section, Field, Missing, Room, Site, Duplicate, Raster, Shape, Reference, Loop, Use, Align, Long, Outlasts}
use Rattle.reader.specs.Reading.{zeros}

-- "1, 6, 7, 8, 10 .. give line 0": whether a refusal gives a line
abbrev pub gives_line : Refusal → Bool
gives_line Big = false
gives_line Line = true
gives_line Version = true
gives_line Section = true
gives_line Field = true
gives_line Missing = false
gives_line Room = false
gives_line Site = false
gives_line Duplicate = true
gives_line Raster = false
gives_line Shape = true
gives_line Reference = true
gives_line Loop = true
gives_line Use = true
gives_line Align = true
gives_line Long = true
gives_line Outlasts = true

-- what an answer's line may be: an acceptance has none, nor has a refusal that gives none
abbrev pub LineFits : Answer → Type 0
LineFits (Ok got) = Unit
LineFits (Err why) = gives_line why.refusal ≡ false → why.line ≡ 0

-- an answer is an acceptance, 0, or a refusal with a number of the paper's, 1 to 17, and its line
pub record Answered (r : Answer) : Type 0 where
  pub numbered : answer_number r ≤ 17
  pub lined : LineFits r

-- what a refusal leaves: "both counts are 0 and both tables all zero"
pub record LeftZero (table l : List ℤ) (r : Answer) (table' l' : List ℤ) : Type 0 where
  pub no_rows : rows_used r ≡ 0
  pub no-samples : samples_used r ≡ 0
  pub rows : table' ≡ zeros (length table)
  pub samples : l' ≡ zeros (length l)

-- ---- Demand 1 of what reading answers and leaves
pub record FirstDemand (table l : List ℤ) (r : Answer) (table' l' : List ℤ) : Type 0 where
  pub answered : Answered r
  pub zero : (answer_number r ≡ 0 → ⊥) → LeftZero table l r table' l'
