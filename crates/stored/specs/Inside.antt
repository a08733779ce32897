-- What the inner functions answer. Nothing here needs to be believed: laws lead from these to the definitions of the other files.
use Rattle.std.specs.Prelude.{ℕ, suc, ◌+◌, ◌≤◌, Bool, true, cond, List, [], ◌∷◌, ◌≡◌, ℤ, pos, length, get_or, drop}
use Rattle.signed.specs.Signed.{same_z}
use Rattle.text.specs.Lines.{lines_of, whole_lines_of, bare_of}
use Rattle.text.specs.Marks.{mark_of}
use Rattle.grammar.specs.Parts.{no_part}
use Rattle.grammar.specs.Steps.{step_of}
use Rattle.places.specs.declared.Stepped.{Stepped}
use Rattle.file.specs.Whole.{is_fault}
use Rattle.passing.specs.Sound.{sound_from}
use Rattle.stored.specs.Shapes.{ends_shape, is_shape}
use Rattle.stored.specs.Places.{values_part, stored_place_from, stored_place}
use Rattle.file.specs.declared.Walk.{Walk}
use Rattle.stored.specs.declared.Sought.{Sought}

-- ---- A walk over the lines: where it stands behind a line, which ends at a place
unfoldable pub passed_of : Walk → Stepped → ℕ → Walk
passed_of walk s behind = record { at = behind; lines = suc walk.lines; state = s.next }

-- on over the lines up to the one that ends the shape, which leave the state as it is
unfoldable pub behind_from : Walk → List (List ℕ) → Walk
behind_from walk [] = walk
behind_from walk (w ∷ ws) =
    cond (ends_shape (mark_of (bare_of w))) walk (behind_from (record { at = walk.at + length w; lines = suc walk.lines; state = walk.state }) ws)

-- ---- The next shape in the lines from where a walk stands, of any ID or with this one, and the walk behind its stored lines
-- the ID of a shape's row
abbrev pub id_of : Stepped → ℤ
id_of s = get_or s.cells 1 (pos 0)

unfoldable pub is_wanted : Bool → ℤ → Stepped → Bool
is_wanted any id s = is_shape (cond any (id_of s) id) s

unfoldable pub sought_from : Bool → ℤ → Walk → List (List ℕ) → Sought
sought_from any id walk [] = record { part = no_part; id = pos 0; walk = walk }
sought_from any id walk (w ∷ ws) =
    cond (is_fault (step_of walk.state (suc walk.lines) (bare_of w)).found) (record { part = no_part; id = pos 0; walk = walk })
    (cond (is_wanted any id (step_of walk.state (suc walk.lines) (bare_of w)))
    (record {
      part = values_part (walk.at + length w) ws;
      id = id_of (step_of walk.state (suc walk.lines) (bare_of w));
      walk = behind_from (passed_of walk (step_of walk.state (suc walk.lines) (bare_of w)) (walk.at + length w)) ws;
    })
    (sought_from any id (passed_of walk (step_of walk.state (suc walk.lines) (bare_of w)) (walk.at + length w)) ws))

unfoldable pub sought_of : List ℕ → Walk → Bool → ℤ → Sought
sought_of file walk any id = sought_from any id walk (whole_lines_of (drop walk.at file))

-- the next shape if it has this ID, else the first from the front
unfoldable pub next_of : List ℕ → Walk → ℤ → Sought
next_of file walk id =
    cond (same_z (sought_of file walk true id).id id) (sought_of file walk true id) (record { part = stored_place file id; id = id; walk = walk })

-- ---- A walk that came from the front, and of which no line ahead is at fault: a shape whose ID is new, as no shape passed has it, is the first of the
-- lines that are left
pub record Walked (file : List ℕ) (new : ℤ → Type 0) (walk : Walk) : Type 0 where
  pub lines : walk.lines ≤ walk.at
  pub sound : sound_from walk.state (suc walk.lines) (lines_of (drop walk.at file)) ≡ true
  pub same : (id : ℤ) → new id → stored_place_from id walk.state (suc walk.lines) walk.at (whole_lines_of (drop walk.at file)) ≡ stored_place file id
