-- The stored lines of a shape. "The shape's stored lines are handed back as a part of the file's text, up to the line that ends them".
use Rattle.std.specs.Prelude.{ℕ, suc, Bool, true, false, cond, ◌&&◌, List, [], ◌∷◌, ◌++◌, ℤ, pos, get_or}
use Rattle.text.specs.Lines.{whole_lines_of, bare_of}
use Rattle.text.specs.Marks.{mark_of}
use Rattle.text.specs.declared.Mark.{Mark}
use Rattle.text.specs.declared.Mark.TheVariants.{Blank, Comment, Section, Plain}
use Rattle.signed.specs.Signed.{same_z}
use Rattle.columns.specs.Columns.{shape_kind}
use Rattle.places.specs.Places.{fresh}
use Rattle.grammar.specs.Steps.{step_of}
use Rattle.places.specs.declared.State.{State}
use Rattle.places.specs.declared.Stepped.{Stepped}
use Rattle.file.specs.Whole.{is_fault, is_row}

-- ---- "to a blank line, a section or the end"
unfoldable pub ends_shape : Mark → Bool
ends_shape Blank = true
ends_shape Comment = false
ends_shape Section = true
ends_shape Plain = false

-- lines with their ends, up to the one that ends the shape
unfoldable pub values_text : List (List ℕ) → List ℕ
values_text [] = []
values_text (w ∷ ws) = cond (ends_shape (mark_of (bare_of w))) [] (w ++ values_text ws)

-- ---- The first shape with this ID: what follows its `num_samples`
unfoldable pub is_shape : ℤ → Stepped → Bool
is_shape id r = is_row r.found && (same_z (get_or r.cells 0 (pos 0)) (pos shape_kind) && same_z (get_or r.cells 1 (pos 0)) id)

unfoldable pub stored_from : ℤ → State → ℕ → List (List ℕ) → List ℕ
stored_from id st n [] = []
stored_from id st n (w ∷ ws) =
    cond (is_fault (step_of st n (bare_of w)).found) []
    (cond (is_shape id (step_of st n (bare_of w))) (values_text ws) (stored_from id (step_of st n (bare_of w)).next (suc n) ws))

unfoldable pub stored_of : List ℕ → ℤ → List ℕ
stored_of file id = stored_from id fresh 1 (whole_lines_of file)
