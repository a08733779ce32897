-- DEFINITIONS of a restated text reads back: the file's definitions and behind them those that are added, in order. Assumes nothing.
use Prim.Native.Nat.{ℕ, suc, ◌+◌, ◌≤◌}
use mathlib.Core.Bool.{Bool, true, false, cond}
use mathlib.Core.List.{List, [], ◌∷◌, ◌++◌, append_assoc, append-nil}
use mathlib.Core.Path.{◌≡◌, refl, sym, ap, ◌∙◌}
use native.Mathlib.Omega.{arith}
use borrow.Author.Tests.{lt-ltb, ltb-false}
use lib.Dec.{eqb, ltb}
use lib.ListN.{length, length-append}
use Rattle.shape.specs.declared.Edition.{Edition}
use Rattle.shape.specs.declared.Edition.TheVariants.{V13, V14}
use Rattle.sections.specs.Entering.{entered}
use Rattle.places.specs.declared.Lines.TheVariants.{Definitions}
use Rattle.places.specs.declared.Place.TheVariants.{Section}
use Rattle.places.specs.declared.State.{State}
use Rattle.definitions.specs.Definitions.{Definition, definitions_of, site_definitions, sought}
use Rattle.rasters.specs.Rasters.{gradient_key, rf_key, adc_key, block_key}
use Rattle.said.specs.Said.{section_of}
use Rattle.definition_text.specs.Definitions.{definition_line, definition_lines, absent_line, added_lines, definitions_text, definitions_head, definition_section}
use Rattle.restated_laws.proofs.Going.{Goes, goes_none, goes_then}
use Rattle.restated_laws.proofs.SectionBack.{Open, blank-back}
use Rattle.restated_laws.proofs.DefinedBack.{AllDefining, numbered, definitions-head-back, definitions-back}

-- ---- The definitions that the section says: one where the file's own give no value for a key, and those of all four rasters; the file's come first
unfoldable pub absent_of : List Definition → List Definition → List ℕ → List Definition
absent_of own site key = cond (eqb (length (sought key own)) 0) (record { line = 0; key = key; value = sought key site } ∷ []) []

unfoldable pub added_of : Edition → List Definition → List Definition → List Definition
added_of V13 own site = []
added_of V14 own site = absent_of own site gradient_key ++ (absent_of own site rf_key ++ (absent_of own site adc_key ++ absent_of own site block_key))

unfoldable pub said_definitions : Edition → List ℕ → List ℕ → List Definition
said_definitions target file site = definitions_of file ++ added_of target (definitions_of file) (site_definitions site)

-- ---- Their lines are those of the section
lines-append : (ds es : List Definition) → definition_lines (ds ++ es) ≡ definition_lines ds ++ definition_lines es
unfolding definition_lines
lines-append [] es = refl
lines-append (d ∷ ds) es = ap (λ (t : List ℕ). definition_line d.key d.value ++ t) (lines-append ds es) ∙ sym (append_assoc (definition_line d.key d.value) (definition_lines ds) (definition_lines es))

module _ (own site : List Definition) where
  absent-lines : (key : List ℕ) → definition_lines (absent_of own site key) ≡ absent_line own site key
  unfolding absent_of absent_line definition_lines
  absent-lines key = go (eqb (length (sought key own)) 0)
    where
      go : (b : Bool) → definition_lines (cond b (record { line = 0; key = key; value = sought key site } ∷ []) []) ≡ cond b (definition_line key (sought key site)) []
      go true = append-nil (definition_line key (sought key site))
      go false = refl

  absent-then : (key : List ℕ) (es : List Definition) {t : List ℕ} → definition_lines es ≡ t → definition_lines (absent_of own site key ++ es) ≡ absent_line own site key ++ t
  absent-then key es e = lines-append (absent_of own site key) es ∙ rw (absent-lines key, e)

  added-lines : (target : Edition) → definition_lines (added_of target own site) ≡ added_lines target own site
  unfolding added_of added_lines
  added-lines V13 = unfold definition_lines in refl
  added-lines V14 =
      absent-then gradient_key (absent_of own site rf_key ++ (absent_of own site adc_key ++ absent_of own site block_key))
      (absent-then rf_key (absent_of own site adc_key ++ absent_of own site block_key) (absent-then adc_key (absent_of own site block_key) (absent-lines block_key)))

pub said-lines : (target : Edition) (file site : List ℕ) → definitions_text target file site ≡ definition_lines (said_definitions target file site)
unfolding definitions_text said_definitions
said-lines target file site =
    sym (lines-append (definitions_of file) (added_of target (definitions_of file) (site_definitions site)) ∙ rw (added-lines (definitions_of file) (site_definitions site) target))

-- there is a line where there is a definition
lines-some : (ds : List Definition) → ltb 0 (length (definition_lines ds)) ≡ ltb 0 (length ds)
unfolding definition_lines definition_line
lines-some [] = refl
lines-some (d ∷ ds) =
    lt-ltb 0 (length (definition_lines (d ∷ ds)))
    (omega (arith, length-append (definition_line d.key d.value) (definition_lines ds), length-append d.key (32 ∷ (d.value ++ (10 ∷ [])))))
    ∙ sym (lt-ltb 0 (suc (length ds)) (omega arith))

-- ---- The section: its head, its lines and a blank line; nothing where nothing is said
abbrev pub in_definitions : State → State
in_definitions st = entered st 2 (Section Definitions)

numbered-none : (n : ℕ) (ds : List Definition) → length ds ≤ 0 → numbered n ds ≡ []
unfolding numbered
numbered-none n [] h = refl
numbered-none n (d ∷ ds) h = absurd (omega arith)

said-back : (st : State) (n : ℕ) → Open st 2 → {ds : List Definition} → AllDefining ds
    → Goes st n (section_of (ltb 0 (length ds)) definitions_head (definition_lines ds)) [] (numbered (suc n) ds) (cond (ltb 0 (length ds)) (in_definitions st) st)
    (cond (ltb 0 (length ds)) (suc (suc n + length ds)) n)
said-back st n o {ds} all = go (ltb 0 (length ds)) refl
  where
    go : (b : Bool) → ltb 0 (length ds) ≡ b
        → Goes st n (section_of b definitions_head (definition_lines ds)) [] (numbered (suc n) ds) (cond b (in_definitions st) st) (cond b (suc (suc n + length ds)) n)
    go true e =
        rw (append-nil (numbered (suc n) ds)) at
        (goes_then (definitions-head-back st n o)
        (goes_then (definitions-back (in_definitions st) refl (suc n) all) (blank-back (in_definitions st) (suc n + length ds) Definitions refl)))
    go false e = rw (numbered-none (suc n) ds (ltb-false 0 (length ds) e)) goes_none

pub definition-section-back : (st : State) (n : ℕ) → Open st 2 → (target : Edition) (file site : List ℕ) → AllDefining (said_definitions target file site)
    → Goes st n (definition_section target file site) [] (numbered (suc n) (said_definitions target file site)) (cond (ltb 0 (length (said_definitions target file site))) (in_definitions st) st)
    (cond (ltb 0 (length (said_definitions target file site))) (suc (suc n + length (said_definitions target file site))) n)
unfolding definition_section
definition-section-back st n o target file site all = rw (said-lines target file site, lines-some (said_definitions target file site)) (said-back st n o all)
