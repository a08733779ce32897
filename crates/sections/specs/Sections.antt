-- The sections of a file, which edition has which, and what their lines are.
use Rattle.std.specs.Prelude.{ℕ, Bool, cond, ◌&&◌, ◌||◌, List, [], ◌∷◌, eqb, leb}
use Rattle.fields.specs.Fields.{trimmed}
use Rattle.text.specs.Words.{place_of}
use Rattle.shape.specs.declared.Edition.{Edition}
use Rattle.shape.specs.declared.Edition.TheVariants.{V13, V14}
use Rattle.columns.specs.declared.Form.TheVariants.{Block, Rf, Gradient, Trap, Adc, Delay}
use Rattle.places.specs.declared.Lines.TheVariants.{Definitions, Rows, Shapes}
use Rattle.places.specs.declared.Listed.TheVariants.{Entries}
use Rattle.places.specs.declared.Place.{Place}
use Rattle.places.specs.declared.Place.TheVariants.{Section, Extensions, Signature}

-- ---- "Sections after VERSION come in any order: DEFINITIONS, BLOCKS, RF, GRADIENTS, TRAP, ADC, EXTENSIONS, SHAPES; DELAYS in 1.3 only; SIGNATURE
-- in 1.4 only". A section's number is its place in this list.
unfoldable pub section_names : List (List ℕ)
section_names =
    (91 ∷ 86 ∷ 69 ∷ 82 ∷ 83 ∷ 73 ∷ 79 ∷ 78 ∷ 93 ∷ [])  -- [VERSION]
    ∷ (91 ∷ 68 ∷ 69 ∷ 70 ∷ 73 ∷ 78 ∷ 73 ∷ 84 ∷ 73 ∷ 79 ∷ 78 ∷ 83 ∷ 93 ∷ [])  -- [DEFINITIONS]
    ∷ (91 ∷ 66 ∷ 76 ∷ 79 ∷ 67 ∷ 75 ∷ 83 ∷ 93 ∷ [])  -- [BLOCKS]
    ∷ (91 ∷ 82 ∷ 70 ∷ 93 ∷ [])  -- [RF]
    ∷ (91 ∷ 71 ∷ 82 ∷ 65 ∷ 68 ∷ 73 ∷ 69 ∷ 78 ∷ 84 ∷ 83 ∷ 93 ∷ [])  -- [GRADIENTS]
    ∷ (91 ∷ 84 ∷ 82 ∷ 65 ∷ 80 ∷ 93 ∷ [])  -- [TRAP]
    ∷ (91 ∷ 65 ∷ 68 ∷ 67 ∷ 93 ∷ [])  -- [ADC]
    ∷ (91 ∷ 69 ∷ 88 ∷ 84 ∷ 69 ∷ 78 ∷ 83 ∷ 73 ∷ 79 ∷ 78 ∷ 83 ∷ 93 ∷ [])  -- [EXTENSIONS]
    ∷ (91 ∷ 83 ∷ 72 ∷ 65 ∷ 80 ∷ 69 ∷ 83 ∷ 93 ∷ [])  -- [SHAPES]
    ∷ (91 ∷ 68 ∷ 69 ∷ 76 ∷ 65 ∷ 89 ∷ 83 ∷ 93 ∷ [])  -- [DELAYS]
    ∷ (91 ∷ 83 ∷ 73 ∷ 71 ∷ 78 ∷ 65 ∷ 84 ∷ 85 ∷ 82 ∷ 69 ∷ 93 ∷ [])  -- [SIGNATURE]
    ∷ []

-- the section that a line names: its number, or 0
unfoldable pub section_no : List ℕ → ℕ
section_no line = place_of section_names (trimmed line)

-- which sections an edition has behind VERSION: eight that both have, and one of its own
abbrev pub own_section : Edition → ℕ
own_section V13 = 10
own_section V14 = 11

unfoldable pub has_section : Edition → ℕ → Bool
has_section edition k = (leb 2 k && leb k 9) || eqb k (own_section edition)

-- what the lines of a section are
unfoldable pub place_in : ℕ → Place
place_in k =
    cond (eqb k 2) (Section Definitions)
    (cond (eqb k 3) (Section (Rows Block))
    (cond (eqb k 4) (Section (Rows Rf))
    (cond (eqb k 5) (Section (Rows Gradient))
    (cond (eqb k 6) (Section (Rows Trap))
    (cond (eqb k 7) (Section (Rows Adc))
    (cond (eqb k 8) (Extensions Entries)
    (cond (eqb k 9) (Section Shapes)
    (cond (eqb k 10) (Section (Rows Delay)) Signature))))))))
