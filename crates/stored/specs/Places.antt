-- Where the stored lines of a shape stand. "The shape's stored lines are handed back as a part of the file's text, up to the line that ends them".
use Rattle.std.specs.Prelude.{ℕ, suc, ◌+◌, cond, List, [], ◌∷◌, ℤ, length}
use Rattle.text.specs.Lines.{whole_lines_of, bare_of}
use Rattle.fields.specs.declared.Part.{Part}
use Rattle.grammar.specs.Parts.{no_part}
use Rattle.grammar.specs.Steps.{step_of}
use Rattle.places.specs.Places.{fresh}
use Rattle.places.specs.declared.State.{State}
use Rattle.file.specs.Whole.{is_fault}
use Rattle.stored.specs.Shapes.{values_text, is_shape}

-- ---- In lines with their ends, the first of which starts at a place: the lines up to the one that ends the shape
unfoldable pub values_part : ℕ → List (List ℕ) → Part
values_part from ws = record { start = from; stop = from + length (values_text ws) }

-- ---- The first shape with this ID, in lines of which the first is line n and starts at `at`: what follows its `num_samples`
unfoldable pub stored_place_from : ℤ → State → ℕ → ℕ → List (List ℕ) → Part
stored_place_from id st n at [] = no_part
stored_place_from id st n at (w ∷ ws) =
    cond (is_fault (step_of st n (bare_of w)).found) no_part
    (cond (is_shape id (step_of st n (bare_of w))) (values_part (at + length w) ws) (stored_place_from id (step_of st n (bare_of w)).next (suc n) (at + length w) ws))

unfoldable pub stored_place : List ℕ → ℤ → Part
stored_place file id = stored_place_from id fresh 1 0 (whole_lines_of file)
