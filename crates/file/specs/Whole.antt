-- A whole file, line by line: the first fault with its line, or how it ends; and all that its lines give.
use Rattle.std.specs.Prelude.{ℕ, suc, Bool, true, false, cond, List, [], ◌∷◌, ◌++◌}
use Rattle.text.specs.Lines.{lines_of}
use Rattle.places.specs.Places.{fresh, ending_of}
use Rattle.grammar.specs.Steps.{step_of}
use Rattle.places.specs.declared.Fault.{Fault}
use Rattle.places.specs.declared.Found.{Found}
use Rattle.places.specs.declared.Found.TheVariants.{Nothing, Row, Definition, Fault as FoundFault}
use Rattle.places.specs.declared.State.{State}
use Rattle.places.specs.declared.Stepped.{Stepped}

-- ---- "Then 2 to 5 line by line: the first faulty line answers, with its lowest number. A row due when the file ends answers its number at line 0."
pub data Verdict : Type 0 where
  ended : State → Verdict
  stopped : Fault → ℕ → Verdict

-- how it goes on from a state, unless what was found at this line is a fault
unfoldable pub judged : Found → ℕ → Verdict → Verdict
judged Nothing n rest = rest
judged Row n rest = rest
judged Definition n rest = rest
judged (FoundFault fault) n rest = stopped fault n

unfoldable pub verdict_from : State → ℕ → List (List ℕ) → Verdict
verdict_from st n [] = judged (ending_of st.place) 0 (ended st)
verdict_from st n (l ∷ ls) = judged (step_of st n l).found n (verdict_from (step_of st n l).next (suc n) ls)

unfoldable pub verdict_of : List ℕ → Verdict
verdict_of file = verdict_from fresh 1 (lines_of file)

-- ---- What the lines give, one after another, up to the first fault; `pick` says what is taken from line n
unfoldable pub is_fault : Found → Bool
is_fault Nothing = false
is_fault Row = false
is_fault Definition = false
is_fault (FoundFault fault) = true

unfoldable pub is_row : Found → Bool
is_row Nothing = false
is_row Row = true
is_row Definition = false
is_row (FoundFault fault) = false

-- how many rows a line gives
abbrev pub row_count : Found → ℕ
row_count Nothing = 0
row_count Row = 1
row_count Definition = 0
row_count (FoundFault fault) = 0

unfoldable pub is_defined : Found → Bool
is_defined Nothing = false
is_defined Row = false
is_defined Definition = true
is_defined (FoundFault fault) = false

unfoldable pub gathered : {A : Type 0} → (ℕ → List ℕ → Stepped → List A) → State → ℕ → List (List ℕ) → List A
gathered pick st n [] = []
gathered pick st n (l ∷ ls) = cond (is_fault (step_of st n l).found) [] (pick n l (step_of st n l) ++ gathered pick (step_of st n l).next (suc n) ls)
