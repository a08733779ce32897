-- An empty key is found nowhere: the key of a definition has a byte. Assumes nothing.
use Rattle.std.proofs.Common.{None, Some}
use Prim.Native.Nat.{ℕ, suc}
use mathlib.Core.Bool.{Bool, true, false, cond, ◌&&◌}
use mathlib.Core.List.{List, [], ◌∷◌, ◌++◌}
use mathlib.Core.Path.{◌≡◌, refl, sym, ap, ◌∙◌}
use native.Mathlib.Omega.{arith}
use borrow.Author.Tests.{eqb-true}
use lib.ListN.{length, get_or}
use Rattle.fields.specs.Fields.{ends_field, fields_of}
use Rattle.text.specs.Lines.{onto, lines_of}
use Rattle.text.specs.Marks.{is_blank, mark_of, breaks_line}
use Rattle.text.specs.Words.{same_bytes}
use Rattle.text.specs.declared.Mark.{Mark}
use Rattle.text.specs.declared.Mark.TheVariants.{Blank}
use Rattle.text.proofs.Words.{same_true}
use Rattle.places.specs.Places.{fresh, refused_of}
use Rattle.places.specs.declared.Fault.TheVariants.{Line as LineFault}
use Rattle.places.specs.declared.Found.{Found}
use Rattle.places.specs.declared.Found.TheVariants.{Nothing, Fault as FoundFault}
use Rattle.places.specs.declared.Place.{Place}
use Rattle.places.specs.declared.Place.TheVariants.{Start, Version, Section, Extensions, Head, Values, Signature}
use Rattle.places.specs.declared.State.{State}
use Rattle.grammar.specs.Definitions.{key_of, value_of}
use Rattle.grammar.specs.Steps.{blank_step, marked_step, step_of}
use Rattle.file.specs.Whole.{is_fault, is_defined, gathered}
use Rattle.definitions.specs.Definitions.{Definition, definition_at, definitions_from, definitions_of, site_mark, site_line, site_at, site_in, site_definitions, sought, either_of, definition_of}
use Rattle.lookups.specs.Looking.{is_faulty, looked_up}
use Rattle.lookups.specs.Spots.{source_number, Spot, spot_number, definition_spot}
use Rattle.lookups.specs.declared.Source.{Source}
use Rattle.lookups.specs.declared.Source.TheVariants.{File, Site}
use Rattle.lookups.proofs.Spots.{definition-stands}

-- ---- a line without a key is blank
blank-key : (line : List ℕ) → key_of line ≡ [] → mark_of line ≡ Blank
unfolding key_of mark_of fields_of onto
blank-key [] e = refl
blank-key (c ∷ s) e = go (is_blank c) _ (blank-key s) e
  where
    some : (b : Bool) (fs : List (List ℕ)) → get_or (cond b ((c ∷ []) ∷ fs) (onto c fs)) 0 [] ≡ [] → ⊥
    some true fs e = let z = ap length e in omega arith
    some false [] e = let z = ap length e in omega arith
    some false (f ∷ fs) e = let z = ap length e in omega arith

    go : (b : Bool) (m : Mark) → (get_or (fields_of s) 0 [] ≡ [] → mark_of s ≡ Blank) → get_or (cond b (fields_of s) (cond (ends_field s) ((c ∷ []) ∷ fields_of s) (onto c (fields_of s)))) 0 [] ≡ []
        → cond b (mark_of s) m ≡ Blank
    go true m h e = h e
    go false m h e = absurd (some (ends_field s) (fields_of s) e)

-- ---- a blank line defines nothing
step-blank : (st : State) (n : ℕ) (line : List ℕ) → mark_of line ≡ Blank → is_defined (step_of st n line).found ≡ false
unfolding step_of marked_step blank_step is_defined
step-blank st n line e = rw e (go (breaks_line line) st.place)
  where
    go : (b : Bool) (p : Place) → is_defined (cond b (refused_of st LineFault) (blank_step st p)).found ≡ false
    go true p = refl
    go false Start = refl
    go false (Version due) = refl
    go false (Section lines) = refl
    go false (Extensions listed) = refl
    go false (Head id n) = refl
    go false Values = refl
    go false Signature = refl

site-blank : (line : List ℕ) → mark_of line ≡ Blank → is_defined (site_line line) ≡ false
unfolding site_line site_mark is_defined
site-blank line e = rw e (go (breaks_line line))
  where
    go : (b : Bool) → is_defined (cond b (FoundFault LineFault) Nothing) ≡ false
    go true = refl
    go false = refl

-- ---- so no definition has an empty key
module _ (found : Found) (line : List ℕ) (blank : mark_of line ≡ Blank → is_defined found ≡ false) where
  never-empty : is_defined found && same_bytes (key_of line) [] ≡ false
  never-empty = go (is_defined found) (same_bytes (key_of line) []) refl refl
    where
      go : (d s : Bool) → is_defined found ≡ d → same_bytes (key_of line) [] ≡ s → d && s ≡ false
      go true true e f = sym e ∙ blank (blank-key line (same_true (key_of line) [] f))
      go true false e f = refl
      go false s e f = refl

  -- a line in front of definitions with no empty key
  front-empty : (n : ℕ) (ds : List Definition) → sought [] ds ≡ []
      → sought [] (cond (is_fault found) [] (cond (is_defined found) (record { line = n; key = key_of line; value = value_of line } ∷ []) [] ++ ds)) ≡ []
  unfolding sought
  front-empty n ds h = go (is_fault found) (is_defined found) never-empty
    where
      go : (f d : Bool) → d && same_bytes (key_of line) [] ≡ false → sought [] (cond f [] (cond d (record { line = n; key = key_of line; value = value_of line } ∷ []) [] ++ ds)) ≡ []
      go true d e = refl
      go false true e = rw e h
      go false false e = h

file-empty : (st : State) (n : ℕ) (ls : List (List ℕ)) → sought [] (definitions_from st n ls) ≡ []
unfolding gathered definition_at sought
file-empty st n [] = refl
file-empty st n (l ∷ ls) = front-empty (step_of st n l).found l (step-blank st n l) n (definitions_from (step_of st n l).next (suc n) ls) (file-empty (step_of st n l).next (suc n) ls)

site-empty : (ls : List (List ℕ)) → sought [] (site_in ls) ≡ []
unfolding site_in site_at sought
site-empty [] = refl
site-empty (l ∷ ls) = front-empty (site_line l) l (site-blank l) 0 (site_in ls) (site-empty ls)

-- ---- what is looked up by an empty key
pub empty-key-looked : (file site : List ℕ) → looked_up file site [] ≡ []
unfolding looked_up definition_of either_of definitions_of site_definitions
empty-key-looked file site = go (is_faulty file site)
  where
    go : (b : Bool) → cond b [] (definition_of file site []) ≡ []
    go true = refl
    go false = rw (file-empty fresh 1 (lines_of file), site-empty (lines_of site))

positive : {A : Type 0} (source : Source) → source_number source ≡ 0 → A
positive File e = absurd (omega arith)
positive Site e = absurd (omega arith)

no_number : (s : Spot) → spot_number s ≡ 0 → s ≡ None
no_number None e = refl
no_number (Some part) e = positive part.source e

pub empty-key-nowhere : (file site : List ℕ) → definition_spot file site [] ≡ None
empty-key-nowhere file site =
    no_number (definition_spot file site []) (eqb-true (spot_number (definition_spot file site [])) 0 ((definition-stands file site []).none ∙ rw (empty-key-looked file site)))
