-- Every line of DEFINITIONS is short, whatever file and site are. Assumes nothing.
use Prim.Native.Nat.{ℕ, suc, ◌+◌, ◌≤◌}
use mathlib.Core.Bool.{Bool, true, false, cond}
use mathlib.Core.List.{List, [], ◌∷◌, ◌++◌, append_assoc}
use mathlib.Core.Path.{◌≡◌, refl, ap}
use native.Mathlib.Omega.{arith}
use lib.Dec.{eqb, ltb}
use lib.ListN.{length, length-append}
use Rattle.text.specs.Lines.{lines_of}
use Rattle.text.specs.Words.{same_bytes}
use Rattle.text.proofs.Short.{Short, short_none, short-line, short-append}
use Rattle.text.proofs.Words.{same_true}
use Rattle.shape.specs.declared.Edition.{Edition}
use Rattle.shape.specs.declared.Edition.TheVariants.{V13, V14}
use Rattle.places.specs.Places.{fresh}
use Rattle.places.specs.declared.State.{State}
use Rattle.grammar.specs.Definitions.{key_of, value_of}
use Rattle.grammar.specs.Steps.{step_of}
use Rattle.file.specs.Whole.{is_fault, is_defined, gathered}
use Rattle.definitions.specs.Definitions.{Definition, definition_at, definitions_from, definitions_of, site_line, site_at, site_in, site_definitions, sought}
use Rattle.definitions.proofs.Seeking.{site-defines}
use Rattle.rasters.specs.Rasters.{gradient_key, rf_key, adc_key, block_key}
use Rattle.said.proofs.Short.{short-if, section-short}
use Rattle.definition_text.specs.Definitions.{definition_line, definition_lines, absent_line, added_lines, definitions_text, definitions_head, definition_section}
use Rattle.definition_text.proofs.Defined.{step-defines, definition-short}

-- ---- one line
line-short : (key value : List ℕ) → length key + 1 + length value ≤ 1024 → Short (definition_line key value)
unfolding definition_line
line-short key value h = rw (append_assoc key (32 ∷ value) (10 ∷ [])) at (short-line (key ++ (32 ∷ value)) (omega (arith, length-append key (32 ∷ value))) short_none)

-- ---- the file's
lines-short : (st : State) (n : ℕ) (ls : List (List ℕ)) → Short (definition_lines (definitions_from st n ls))
unfolding gathered definition_at definition_lines
lines-short st n [] = short_none
lines-short st n (l ∷ ls) = go (is_fault (step_of st n l).found) (is_defined (step_of st n l).found) refl _ (lines-short (step_of st n l).next (suc n) ls)
  where
    go : (f d : Bool) → is_defined (step_of st n l).found ≡ d → (rest : List Definition) → Short (definition_lines rest)
        → Short (definition_lines (cond f [] (cond d (record { line = n; key = key_of l; value = value_of l } ∷ []) [] ++ rest)))
    go true d e rest h = short_none
    go false true e rest h = short-append (line-short (key_of l) (value_of l) (definition-short l (step-defines st n l e))) h
    go false false e rest h = h

-- ---- the site's value of a key that is not too long itself
module _ (key : List ℕ) (k : length key + 1 ≤ 1024) where
  value-short : (ls : List (List ℕ)) → length key + 1 + length (sought key (site_in ls)) ≤ 1024
  unfolding site_in site_at sought
  value-short [] = omega arith
  value-short (l ∷ ls) = go (is_fault (site_line l)) (is_defined (site_line l)) refl (value-short ls)
    where
      here : (s : Bool) → same_bytes (key_of l) key ≡ s → is_defined (site_line l) ≡ true → length key + 1 + length (sought key (site_in ls)) ≤ 1024
          → length key + 1 + length (cond s (value_of l) (sought key (site_in ls))) ≤ 1024
      here true q e h = omega (arith, definition-short l (site-defines l e), ap length (same_true (key_of l) key q))
      here false q e h = h

      go : (f d : Bool) → is_defined (site_line l) ≡ d → length key + 1 + length (sought key (site_in ls)) ≤ 1024
          → length key + 1 + length (sought key (cond f [] (cond d (record { line = 0; key = key_of l; value = value_of l } ∷ []) [] ++ site_in ls))) ≤ 1024
      go true d e h = omega arith
      go false true e h = here (same_bytes (key_of l) key) refl e h
      go false false e h = h

  absent-short : (own : List Definition) (site : List ℕ) → Short (absent_line own (site_definitions site) key)
  unfolding absent_line site_definitions
  absent-short own site = short-if (eqb (length (sought key own)) 0) (line-short key (sought key (site_in (lines_of site))) (value-short (lines_of site))) short_none

added-short : (target : Edition) (own : List Definition) (site : List ℕ) → Short (added_lines target own (site_definitions site))
unfolding added_lines gradient_key rf_key adc_key block_key
added-short V13 own site = short_none
added-short V14 own site =
    short-append (absent-short gradient_key (omega arith) own site)
    (short-append (absent-short rf_key (omega arith) own site) (short-append (absent-short adc_key (omega arith) own site) (absent-short block_key (omega arith) own site)))

-- ---- the section
head-short : Short definitions_head
unfolding definitions_head
head-short = short-line (91 ∷ 68 ∷ 69 ∷ 70 ∷ 73 ∷ 78 ∷ 73 ∷ 84 ∷ 73 ∷ 79 ∷ 78 ∷ 83 ∷ 93 ∷ []) (omega arith) short_none

pub definitions-short : (target : Edition) (file site : List ℕ) → Short (definition_section target file site)
unfolding definition_section definitions_text definitions_of
definitions-short target file site =
    section-short (ltb 0 (length (definitions_text target file site))) head-short
    (short-append (lines-short fresh 1 (lines_of file)) (added-short target (definitions_of file) site))
