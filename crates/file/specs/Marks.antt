-- Where a section begins in a file: the walk that first stands in it, from where its lines are sought again.
use Rattle.std.specs.Prelude.{ℕ, suc, ◌+◌, cond, List, [], ◌∷◌, ◌≡◌, eqb, ℤ, length}
use Rattle.text.specs.Lines.{whole_lines_of, bare_of}
use Rattle.places.specs.Places.{section_in, fresh}
use Rattle.places.specs.declared.State.{State}
use Rattle.grammar.specs.Steps.{step_of}
use Rattle.file.specs.Whole.{is_fault}
use Rattle.file.specs.Rows.{Scanning}
use Rattle.file.specs.declared.Walk.{Walk}
use Rattle.file.specs.declared.Marked.{Marked}

-- ---- A walk at the front of a file
unfoldable pub walk_start : Walk
walk_start = record { at = 0; lines = 0; state = fresh }

-- ---- The walk behind the first line that leads to section s, in lines with their ends of which the first is line n and starts at `at`; at the front
-- if none does before the first fault
unfoldable pub met_from : ℕ → State → ℕ → ℕ → List (List ℕ) → Walk
met_from s st n at [] = walk_start
met_from s st n at (w ∷ ws) =
    cond (is_fault (step_of st n (bare_of w)).found) walk_start
    (cond (eqb (section_in (step_of st n (bare_of w)).next.place) s) (record { at = at + length w; lines = n; state = (step_of st n (bare_of w)).next })
    (met_from s (step_of st n (bare_of w)).next (suc n) (at + length w) ws))

unfoldable pub met_walk : ℕ → List ℕ → Walk
met_walk s file = met_from s fresh 1 0 (whole_lines_of file)

-- ---- What reading all lines answers and leaves in the lent table, and where EXTENSIONS and SHAPES begin
pub record Marking (file : List ℕ) (r : Marked) (table table' : List ℤ) : Type 0 where
  pub scanning : Scanning file r.scanned table table'
  pub names : r.names ≡ met_walk 8 file
  pub shapes : r.shapes ≡ met_walk 9 file
