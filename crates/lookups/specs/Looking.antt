-- What is looked up in a file: a definition, and the stored lines of a shape. "empty if neither or on a fault of 1 to 5, 8 or 9".
use Rattle.std.specs.Prelude.{ℕ, Bool, true, false, cond, not, ◌||◌, List, [], eqb, ℤ, Err, Ok}
use Rattle.file.specs.Rows.{scanned_of}
use Rattle.file.specs.Outcome.{Scanned}
use Rattle.definitions.specs.Definitions.{site_fault, definition_of}
use Rattle.stored.specs.Shapes.{stored_of}
use Rattle.repeats.specs.Repeats.{duplicate_of}
use Rattle.questions.specs.Asked.{is_big}

-- ---- 2 to 5
unfoldable pub is_at_fault : Scanned → Bool
is_at_fault (Ok got) = false
is_at_fault (Err why) = true

-- ---- "a fault of 1 to 5, 8 or 9"; a site's text is asked in both editions
unfoldable pub is_faulty : List ℕ → List ℕ → Bool
is_faulty file site = is_big file site || (is_at_fault (scanned_of file) || (site_fault site || not (eqb (duplicate_of file) 0)))

-- ---- "A value sought by key is a part of the file's text or of the site's, the file's if both"
unfoldable pub looked_up : List ℕ → List ℕ → List ℕ → List ℕ
looked_up file site key = cond (is_faulty file site) [] (definition_of file site key)

-- ---- "The shape's stored lines are handed back as a part of the file's text ..; empty as above."
unfoldable pub stored_up : List ℕ → List ℕ → ℤ → List ℕ
stored_up file site id = cond (is_faulty file site) [] (stored_of file id)
