-- A file of which no line is at fault: what reading all lines answers with a file and not with a fault.
use Rattle.std.specs.Prelude.{ℕ, suc, Bool, true, false, cond, List, [], ◌∷◌}
use Rattle.text.specs.Lines.{lines_of}
use Rattle.places.specs.Places.{fresh}
use Rattle.places.specs.declared.State.{State}
use Rattle.grammar.specs.Steps.{step_of}
use Rattle.file.specs.Whole.{is_fault}

-- no line from here on is at fault, of which the first is line n
unfoldable pub sound_from : State → ℕ → List (List ℕ) → Bool
sound_from st n [] = true
sound_from st n (l ∷ ls) = cond (is_fault (step_of st n l).found) false (sound_from (step_of st n l).next (suc n) ls)

unfoldable pub sound_of : List ℕ → Bool
sound_of file = sound_from fresh 1 (lines_of file)
