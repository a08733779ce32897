-- Lines of DEFINITIONS, as a text is restated, read back as their keys and values. Assumes nothing.
use Prim.Native.Nat.{ℕ, suc, ◌+◌, ◌≤◌}
use mathlib.Core.Bool.{false}
use mathlib.Core.List.{List, [], ◌∷◌, ◌++◌, append_assoc}
use mathlib.Core.Path.{◌≡◌, refl, ap, ◌∙◌}
use native.Mathlib.Omega.{arith}
use borrow.Author.Tests.{le-leb}
use lib.ListN.{length, get_or, length-append}
use lib.Seq.{drop-append_seam}
use Rattle.text.specs.Marks.{is_blank, is_control, any_control, mark_of, is_comment, breaks_line}
use Rattle.text.specs.declared.Mark.TheVariants.{Plain}
use Rattle.text.specs.Blanks.{blank_len, skipped}
use Rattle.text.specs.Words.{same_bytes, place_from}
use Rattle.text.proofs.Lines.{or_left, or_right}
use Rattle.fields.specs.Fields.{body_len, trimmed, word_len, field_at}
use Rattle.fields.proofs.Fields.{has_blank, Word, fields-word}
use Rattle.sections.specs.Sections.{section_names, section_no, place_in}
use Rattle.sections.specs.Entering.{entered}
use Rattle.places.specs.declared.Lines.TheVariants.{Definitions}
use Rattle.places.specs.declared.Place.TheVariants.{Section}
use Rattle.places.specs.declared.State.{State}
use Rattle.grammar.specs.Definitions.{key_of, value_of, is_definition}
use Rattle.grammar.specs.Steps.{defined_of, definition_step, lines_step, plain_step}
use Rattle.definitions.specs.Definitions.{Definition}
use Rattle.definition_text.specs.Definitions.{definition_line, definition_lines, definitions_head}
use Rattle.restated_laws.proofs.Going.{Goes, goes_none, goes_then, goes-defined}
use Rattle.restated_laws.proofs.RowBack.{plain-line, control-append, plain_step_lem}
use Rattle.restated_laws.proofs.SectionBack.{Open, head-line}

-- ---- A word that is cut off the front of a line
word_end : (w t : List ℕ) → has_blank w ≡ false → word_len (w ++ (32 ∷ t)) ≡ length w
unfolding has_blank word_len
word_end [] t h = unfold is_blank in refl
word_end (b ∷ w) t h = rw (or_left (is_blank b) (has_blank w) h) (ap suc (word_end w t (or_right (is_blank b) (has_blank w) h)))

no-blanks : (w t : List ℕ) → 1 ≤ length w → has_blank w ≡ false → blank_len (w ++ t) ≡ 0
unfolding has_blank blank_len
no-blanks [] t l h = absurd (omega arith)
no-blanks (b ∷ w) t l h = rw (or_left (is_blank b) (has_blank w) h)

trim-space : (t : List ℕ) → trimmed (32 ∷ t) ≡ trimmed t
unfolding trimmed blank_len is_blank
trim-space t = refl

-- ---- A key that is one word and is no comment and no section line, and a value without blanks around it
pub record Defining (key value : List ℕ) : Type 0 where
  pub word : Word key
  pub some : 1 ≤ length key
  pub plain : any_control key ≡ false
  pub mark : (t : List ℕ) → mark_of (key ++ t) ≡ Plain
  pub bare : trimmed value ≡ value
  pub worth : 1 ≤ length value
  pub clear : any_control value ≡ false
  pub short : length key + 1 + length value ≤ 1024

module _ (key value : List ℕ) (d : Defining key value) where
  abbrev line : List ℕ
  line = key ++ (32 ∷ value)

  pub key_back : key_of line ≡ key
  unfolding key_of
  key_back = ap (λ (fs : List (List ℕ)). get_or fs 0 []) (fields-word value d.word)

  pub value-back : value_of line ≡ value
  unfolding value_of field_at skipped
  value-back =
      let z : 0 + 0 ≡ 0 = omega arith in
      let s : 0 + length key ≡ length key = omega arith in
      rw (no-blanks key (32 ∷ value) d.some d.word.solid, z, word_end key value d.word.solid, s, drop-append_seam key (32 ∷ value), trim-space value) d.bare

  line_clear : any_control line ≡ false
  line_clear = let h : any_control (32 ∷ value) ≡ false = unfold any_control is_control in d.clear in control-append key (32 ∷ value) d.plain h

  line-short : length line ≤ 1024
  line-short = let s = d.short in omega (arith, length-append key (32 ∷ value))

  defined-step : (st : State) (n : ℕ) → plain_step st n line (Section Definitions) ≡ defined_of st
  unfolding plain_step lines_step definition_step is_definition
  defined-step st n = rw (value-back, le-leb 1 (length value) d.worth)

  pub definition-back : (st : State) (n : ℕ) → st.place ≡ Section Definitions → Goes st n (definition_line key value) [] (record { line = n; key = key; value = value } ∷ []) st (suc n)
  unfolding definition_line
  definition-back st n p =
      rw (append_assoc, key_back, value-back) at
      (goes-defined line (plain-line line line_clear) (plain_step_lem st n line line-short line_clear (d.mark (32 ∷ value)) ∙ ap (plain_step st n line) p ∙ defined-step st n))

-- ---- The head of the section
pub definitions-head-back : (st : State) (n : ℕ) → Open st 2 → Goes st n definitions_head [] [] (entered st 2 (Section Definitions)) (suc n)
unfolding definitions_head is_blank mark_of is_comment is_control any_control breaks_line blank_len body_len trimmed same_bytes place_from section_names section_no place_in
definitions-head-back st n o = head-line st n (91 ∷ 68 ∷ 69 ∷ 70 ∷ 73 ∷ 78 ∷ 73 ∷ 84 ∷ 73 ∷ 79 ∷ 78 ∷ 83 ∷ 93 ∷ []) 2 refl refl refl refl o

-- ---- Lines of definitions, one after another; each is then found at its own line
pub data AllDefining : List Definition → Type 0 where
  none-defined : AllDefining []
  one-defined : {d : Definition} {ds : List Definition} → Defining d.key d.value → AllDefining ds → AllDefining (d ∷ ds)

unfoldable pub numbered : ℕ → List Definition → List Definition
numbered n [] = []
numbered n (d ∷ ds) = record { line = n; key = d.key; value = d.value } ∷ numbered (suc n) ds

pub definitions-back : (st : State) → st.place ≡ Section Definitions → (n : ℕ) {ds : List Definition} → AllDefining ds → Goes st n (definition_lines ds) [] (numbered n ds) st (n + length ds)
unfolding definition_lines numbered
definitions-back st p n none-defined = let z : n + 0 ≡ n = omega arith in rw z goes_none
definitions-back st p n (one-defined {d} {ds} x q) =
    let z : n + suc (length ds) ≡ suc n + length ds = omega arith in
    rw z (goes_then (definition-back d.key d.value x st n p) (definitions-back st p (suc n) q))
