-- Where a value sought by key stands. "A value sought by key is a part of the file's text or of the site's, the file's if both, empty if neither".
use Rattle.std.specs.Prelude.{ℕ, suc, ◌+◌, cond, ◌&&◌, List, [], ◌∷◌, length}
use Rattle.text.specs.Lines.{whole_lines_of, bare_of}
use Rattle.text.specs.Words.{same_bytes}
use Rattle.fields.specs.declared.Part.{Part}
use Rattle.grammar.specs.Definitions.{key_of, value_part}
use Rattle.grammar.specs.Parts.{moved_by, no_part}
use Rattle.grammar.specs.Steps.{step_of}
use Rattle.places.specs.Places.{fresh}
use Rattle.places.specs.declared.Found.{Found}
use Rattle.places.specs.declared.State.{State}
use Rattle.file.specs.Whole.{is_fault, is_defined}
use Rattle.definitions.specs.Definitions.{site_line}

-- ---- A line that starts at `at` and gave what was found: nothing is sought behind a fault; its value, if it defines the key; else the place further on
unfoldable pub place_or : List ℕ → Found → ℕ → List ℕ → Part → Part
place_or key found at line further = cond (is_fault found) no_part (cond (is_defined found && same_bytes (key_of line) key) (moved_by at (value_part line)) further)

-- ---- "a part of the file's text": in lines with their ends, the first of which is line n and starts at `at`
unfoldable pub file_place_from : List ℕ → State → ℕ → ℕ → List (List ℕ) → Part
file_place_from key st n at [] = no_part
file_place_from key st n at (w ∷ ws) =
    place_or key (step_of st n (bare_of w)).found at (bare_of w) (file_place_from key (step_of st n (bare_of w)).next (suc n) (at + length w) ws)

unfoldable pub file_place : List ℕ → List ℕ → Part
file_place file key = file_place_from key fresh 1 0 (whole_lines_of file)

-- ---- "or of the site's"
unfoldable pub site_place_from : List ℕ → ℕ → List (List ℕ) → Part
site_place_from key at [] = no_part
site_place_from key at (w ∷ ws) = place_or key (site_line (bare_of w)) at (bare_of w) (site_place_from key (at + length w) ws)

unfoldable pub site_place : List ℕ → List ℕ → Part
site_place site key = site_place_from key 0 (whole_lines_of site)
