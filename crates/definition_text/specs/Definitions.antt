-- The section DEFINITIONS of a restated text. "Definition values stay as read"; "For 1.4.1 absent rasters are added last, in the order above, with the
-- site's value."
use Rattle.std.specs.Prelude.{ℕ, cond, List, [], ◌∷◌, ◌++◌, eqb, ltb, length}
use Rattle.shape.specs.declared.Edition.{Edition}
use Rattle.shape.specs.declared.Edition.TheVariants.{V13, V14}
use Rattle.definitions.specs.Definitions.{Definition, definitions_of, site_definitions, sought}
use Rattle.rasters.specs.Rasters.{gradient_key, rf_key, adc_key, block_key}
use Rattle.said.specs.Said.{section_of}

-- ---- "single spaces, LF": a key, a space, its value, and LF; one line for each definition
unfoldable pub definition_line : List ℕ → List ℕ → List ℕ
definition_line key value = key ++ (32 ∷ (value ++ (10 ∷ [])))

unfoldable pub definition_lines : List Definition → List ℕ
definition_lines [] = []
definition_lines (d ∷ ds) = definition_line d.key d.value ++ definition_lines ds

-- ---- "absent rasters are added": the site's value of a key, if the file's own definitions give none
unfoldable pub absent_line : List Definition → List Definition → List ℕ → List ℕ
absent_line own site key = cond (eqb (length (sought key own)) 0) (definition_line key (sought key site)) []

-- "For 1.4.1 .. in the order above"
unfoldable pub added_lines : Edition → List Definition → List Definition → List ℕ
added_lines V13 own site = []
added_lines V14 own site = absent_line own site gradient_key ++ (absent_line own site rf_key ++ (absent_line own site adc_key ++ absent_line own site block_key))

unfoldable pub definitions_text : Edition → List ℕ → List ℕ → List ℕ
definitions_text target file site = definition_lines (definitions_of file) ++ added_lines target (definitions_of file) (site_definitions site)

-- ---- "empty ones left out, .. one blank line after each section"
-- [DEFINITIONS]
unfoldable pub definitions_head : List ℕ
definitions_head = 91 ∷ 68 ∷ 69 ∷ 70 ∷ 73 ∷ 78 ∷ 73 ∷ 84 ∷ 73 ∷ 79 ∷ 78 ∷ 83 ∷ 93 ∷ 10 ∷ []

unfoldable pub definition_section : Edition → List ℕ → List ℕ → List ℕ
definition_section target file site = section_of (ltb 0 (length (definitions_text target file site))) definitions_head (definitions_text target file site)
