-- Definitions written line by line, what is added to them, and whether there is a line at all. Assumes nothing.
use Prim.Native.Nat.{ℕ, suc, ◌+◌, ◌-◌, ◌≤◌, ◌<◌}
use mathlib.Core.Bool.{Bool, true, false, cond}
use mathlib.Core.List.{List, [], ◌∷◌, ◌++◌}
use mathlib.Core.Path.{◌≡◌, refl, sym, ap, ◌∙◌}
use native.Mathlib.Omega.{arith}
use borrow.Author.Tests.{eq-eqb, ne_eqb, lt-ltb}
use lib.Dec.{ltb}
use lib.ListN.{length, take, drop, length-append}
use Rattle.text.specs.Lines.{lines_of}
use Rattle.text.specs.declared.Line.{Line}
use Rattle.text.proofs.Cut.{LineAt}
use Rattle.output.specs.Over.{farthest, Put}
use Rattle.output.proofs.Over.{put_then}
use Rattle.output.proofs.Partly.{Partly, partly_none, partly-length, partly_more, partly-all}
use Rattle.shape.specs.declared.Edition.{Edition}
use Rattle.shape.specs.declared.Edition.TheVariants.{V13, V14}
use Rattle.places.specs.Places.{fresh}
use Rattle.places.specs.declared.State.{State}
use Rattle.places.specs.declared.Stepped.{Stepped}
use Rattle.grammar.specs.Definitions.{key_of, value_of}
use Rattle.grammar.specs.Steps.{step_of}
use Rattle.file.specs.Whole.{is_fault, is_defined}
use Rattle.file.proofs.Walking.{Within, within-start, within-turn, gathered-turn, gathered-stop, gathered-end}
use Rattle.definitions.specs.Definitions.{Definition, definition_at, definitions_from, definitions_of, site_definitions, sought}
use Rattle.rasters.specs.Rasters.{gradient_key, rf_key, adc_key, block_key}
use Rattle.said.proofs.Saying.{section-some, section-none}
use Rattle.definition_text.specs.Definitions.{definition_line, definition_lines, absent_line, added_lines, definitions_text, definitions_head, definition_section}
use Rattle.definition_text.specs.Inside.{has_lines}

-- ---- what a line gives, in front of what the rest gives
abbrev pub found_text : List ℕ → Stepped → List ℕ
found_text line s = cond (is_defined s.found) (definition_line (key_of line) (value_of line)) []

front-text : (n : ℕ) (line : List ℕ) (s : Stepped) (ds : List Definition) → definition_lines (definition_at n line s ++ ds) ≡ found_text line s ++ definition_lines ds
unfolding definition_lines definition_at
front-text n line s ds = go (is_defined s.found)
  where
    go : (b : Bool) → definition_lines (cond b (record { line = n; key = key_of line; value = value_of line } ∷ []) [] ++ ds) ≡ cond b (definition_line (key_of line) (value_of line)) [] ++ definition_lines ds
    go true = refl
    go false = refl

-- ---- the loop that writes the definitions of a file
pub record OwnPut (l₀ : List ℕ) (at : ℕ) (file : List ℕ) (place : ℕ) (l : List ℕ) (st : State) (from n : ℕ) : Type 0 where
  pub within : Within file from n
  pub part : Partly l₀ at (definition_lines (definitions_of file)) (definition_lines (definitions_from st n (lines_of (drop from file)))) place l

pub own-start : (l : List ℕ) (at : ℕ) (file : List ℕ) (st : State) → st ≡ fresh → at ≤ farthest → length l ≤ farthest → OwnPut l at file at l st 0 1
unfolding definitions_of
own-start l at file st e f h = record { within = within-start file; part = rw e (partly_none f h) }

module _ {l₀ : List ℕ} {at : ℕ} {file : List ℕ} {place : ℕ} {l : List ℕ} {st : State} {from n : ℕ} (k : OwnPut l₀ at file place l st from n) where
  pub own-length : length l ≡ length l₀
  own-length = partly-length k.part

  pub own-end : length file ≤ from → Put l₀ at (definition_lines (definitions_of file)) place l
  unfolding definition_lines
  own-end h = partly-all k.part (ap definition_lines (sym (gathered-end file from h st n definition_at)))

  module _ {r : Line} (a : LineAt file from r) {s : Stepped} (p : s ≡ step_of st n (take (r.stop - from) (drop from file))) where
    pub own-fault : is_fault s.found ≡ true → Put l₀ at (definition_lines (definitions_of file)) place l
    unfolding definition_lines
    own-fault e = partly-all k.part (ap definition_lines (sym (gathered-stop file from r a st n s p definition_at e)))

    pub own_turn : is_fault s.found ≡ false → {place' : ℕ} {l' : List ℕ} → Put l place (found_text (take (r.stop - from) (drop from file)) s) place' l'
        → OwnPut l₀ at file place' l' s.next r.next (n + 1)
    own_turn e q =
        record {
          within = within-turn k.within a;
          part =
              partly_more k.part _ _
              (ap definition_lines (sym (gathered-turn file from r a st n s p definition_at e))
              ∙ front-text n (take (r.stop - from) (drop from file)) s (definitions_from s.next (n + 1) (lines_of (drop r.next file))))
              q;
        }

-- ---- the loop that asks for a definition: so far there was none
pub record NoneYet (file : List ℕ) (st : State) (at n : ℕ) : Type 0 where
  pub within : Within file at n
  pub same : definitions_from st n (lines_of (drop at file)) ≡ definitions_of file

pub none-start : (file : List ℕ) (st : State) → st ≡ fresh → NoneYet file st 0 1
unfolding definitions_of
none-start file st e = record { within = within-start file; same = rw e }

abbrev some : List Definition → Bool
some ds = ltb 0 (length ds)

module _ {file : List ℕ} {st : State} {at n : ℕ} (k : NoneYet file st at n) where
  pub none_end : length file ≤ at → false ≡ some (definitions_of file)
  none_end h = ap some (gathered-end file at h st n definition_at ∙ k.same)

  module _ {r : Line} (a : LineAt file at r) {s : Stepped} (p : s ≡ step_of st n (take (r.stop - at) (drop at file))) where
    pub none-fault : is_fault s.found ≡ true → false ≡ some (definitions_of file)
    none-fault e = ap some (gathered-stop file at r a st n s p definition_at e ∙ k.same)

    module _ (e : is_fault s.found ≡ false) where
      line_gives : definition_at n (take (r.stop - at) (drop at file)) s ++ definitions_from s.next (n + 1) (lines_of (drop r.next file)) ≡ definitions_of file
      line_gives = gathered-turn file at r a st n s p definition_at e ∙ k.same

      pub none-met : is_defined s.found ≡ true → true ≡ some (definitions_of file)
      unfolding definition_at
      none-met d =
          rw (← line_gives, d) (sym (lt-ltb 0 (suc (length (definitions_from s.next (n + 1) (lines_of (drop r.next file))))) (omega arith)))

      pub none-turn : is_defined s.found ≡ false → NoneYet file s.next r.next (n + 1)
      unfolding definition_at
      none-turn d = record { within = within-turn k.within a; same = rw d at line_gives }

-- ---- a key that the file lacks
module _ (own site : List Definition) (key v : List ℕ) (p : v ≡ sought key own) where
  pub absent-line : length v ≡ 0 → {w : List ℕ} → w ≡ sought key site → definition_line key w ≡ absent_line own site key
  unfolding absent_line
  absent-line e q = rw (← p, eq-eqb (length v) 0 e, q)

  pub absent_none : (length v ≡ 0 → ⊥) → [] ≡ absent_line own site key
  unfolding absent_line
  absent_none e = rw (← p, ne_eqb (length v) 0 e)

-- ---- what is added
module _ (target : Edition) (own site : List Definition) where
  pub added_none : target ≡ V13 → [] ≡ added_lines target own site
  unfolding added_lines
  added_none e = rw e

  pub added-put : target ≡ V14 → {l l₁ l₂ l₃ l₄ : List ℕ} {at r₁ r₂ r₃ r₄ : ℕ} → Put l at (absent_line own site gradient_key) r₁ l₁ → Put l₁ r₁ (absent_line own site rf_key) r₂ l₂
      → Put l₂ r₂ (absent_line own site adc_key) r₃ l₃ → Put l₃ r₃ (absent_line own site block_key) r₄ l₄ → Put l at (added_lines target own site) r₄ l₄
  unfolding added_lines
  added-put e x y z w = rw e (put_then x (put_then y (put_then z w)))

-- ---- whether there is a line: a definition is one, and without any the first raster is added
some-line : (d : Definition) (ds : List Definition) (t : List ℕ) → 0 < length (definition_lines (d ∷ ds) ++ t)
unfolding definition_lines definition_line
some-line d ds t =
    let v = d.value ++ (10 ∷ []) in
    let line = d.key ++ (32 ∷ v) in
    let a = length-append (line ++ definition_lines ds) t in
    let b = length-append line (definition_lines ds) in
    let c = length-append d.key (32 ∷ v) in
    omega arith

lines-told : (target : Edition) (own site : List Definition) → has_lines target own ≡ ltb 0 (length (definition_lines own ++ added_lines target own site))
unfolding definition_lines definition_line added_lines absent_line sought gradient_key
lines-told V13 [] site = refl
lines-told V14 [] site =
    let k : 0 < length (added_lines V14 [] site) = omega arith in
    sym (lt-ltb 0 (length (added_lines V14 [] site)) k)
lines-told V13 (d ∷ ds) site = lt-ltb 0 (length (d ∷ ds)) (omega arith) ∙ sym (lt-ltb 0 (length (definition_lines (d ∷ ds) ++ added_lines V13 (d ∷ ds) site)) (some-line d ds (added_lines V13 (d ∷ ds) site)))
lines-told V14 (d ∷ ds) site = sym (lt-ltb 0 (length (definition_lines (d ∷ ds) ++ added_lines V14 (d ∷ ds) site)) (some-line d ds (added_lines V14 (d ∷ ds) site)))

-- ---- the section
module _ (target : Edition) (file site : List ℕ) (b : Bool) (p : b ≡ has_lines target (definitions_of file)) where
  told : ltb 0 (length (definitions_text target file site)) ≡ b
  unfolding definitions_text
  told = sym (p ∙ lines-told target (definitions_of file) (site_definitions site))

  pub section-put : b ≡ true → {l l₁ l₂ l₃ l₄ : List ℕ} {at r₁ r₂ r₃ r₄ : ℕ} → Put l at definitions_head r₁ l₁ → Put l₁ r₁ (definition_lines (definitions_of file)) r₂ l₂
      → Put l₂ r₂ (added_lines target (definitions_of file) (site_definitions site)) r₃ l₃ → Put l₃ r₃ (10 ∷ []) r₄ l₄ → Put l at (definition_section target file site) r₄ l₄
  unfolding definition_section definitions_text
  section-put e x y z w = section-some _ _ _ (told ∙ e) x (put_then y z) w

  pub section-left : b ≡ false → [] ≡ definition_section target file site
  unfolding definition_section
  section-left e = section-none _ definitions_head (definitions_text target file site) (told ∙ e)
