-- Every definition that a file or a site gives is one that reads back: its key is a word and no comment and no section line, its value is trimmed, and
-- both fit a line. Assumes nothing.
use Prim.Native.Nat.{ℕ, zero, suc, ◌≤◌}
use mathlib.Core.Bool.{Bool, true, false, cond, not, ◌&&◌, ◌||◌, false≢true}
use mathlib.Core.List.{List, [], ◌∷◌, ◌++◌}
use mathlib.Core.Path.{◌≡◌, refl, sym, ap, ◌∙◌}
use native.Mathlib.Omega.{arith}
use borrow.Author.Tests.{le-leb, leb-true}
use lib.Dec.{eqb, ltb}
use lib.ListN.{length, take, drop, get_or, length-take}
use lib.Seq.{take_all}
use Rattle.text.specs.Lines.{onto, lines_of}
use Rattle.text.specs.Marks.{is_blank, is_control, any_control, mark_of, is_comment, breaks_line}
use Rattle.text.specs.declared.Mark.{Mark}
use Rattle.text.specs.declared.Mark.TheVariants.{Blank, Comment, Section as SectionLine, Plain}
use Rattle.text.specs.Blanks.{blank_len, skipped}
use Rattle.text.specs.Words.{same_bytes}
use Rattle.text.proofs.Lines.{or_left, or_right}
use Rattle.text.proofs.Words.{same_true}
use Rattle.fields.specs.Fields.{ends_field, fields_of, body_len, trimmed, word_len, field_at}
use Rattle.fields.proofs.Fields.{has_blank}
use Rattle.sections.specs.Sections.{section_no, place_in}
use Rattle.sections.specs.Entering.{may_enter, entered, enter_of, early_section, section_at, section_step}
use Rattle.places.specs.Places.{went_of, refused_of, fresh}
use Rattle.places.specs.declared.Fault.TheVariants.{Line as LineFault, Version as VersionFault, Section as SectionFault, Field as FieldFault}
use Rattle.places.specs.declared.Due.TheVariants.{Major}
use Rattle.places.specs.declared.Found.TheVariants.{Fault as FoundFault}
use Rattle.places.specs.declared.Place.{Place}
use Rattle.places.specs.declared.Place.TheVariants.{Start, Version, Section, Extensions, Head, Values, Signature}
use Rattle.places.specs.declared.State.{State}
use Rattle.grammar.specs.Definitions.{key_of, value_of, is_definition}
use Rattle.grammar.specs.Steps.{blank_step, marked_step, step_of}
use Rattle.file.specs.Whole.{is_fault, is_defined, gathered}
use Rattle.definitions.specs.Definitions.{Definition, definition_at, definitions_from, definitions_of, site_mark, site_line, site_at, site_in, site_definitions, sought, either_of, definition_of}
use Rattle.definitions.proofs.Seeking.{site-defines}
use Rattle.rasters.specs.Rasters.{gradient_key, rf_key, adc_key, block_key}
use Rattle.shape.specs.declared.Edition.{Edition}
use Rattle.shape.specs.declared.Edition.TheVariants.{V13, V14}
use Rattle.definition_text.proofs.Defined.{Defines, step-defines, definition-short}
use Rattle.restated_laws.proofs.DefinedBack.{Defining, AllDefining, none-defined, one-defined}
use Rattle.restated_laws.proofs.DefinedSection.{absent_of, added_of, said_definitions}

-- ---- The key: the first word of a line, without control bytes where the line has none
key-on : (c : ℕ) (s : List ℕ) → is_blank c ≡ true → key_of (c ∷ s) ≡ key_of s
unfolding key_of fields_of
key-on c s e = rw e

key-cut : (c : ℕ) (s : List ℕ) → is_blank c ≡ false → key_of (c ∷ s) ≡ c ∷ cond (ends_field s) [] (key_of s)
unfolding key_of fields_of onto
key-cut c s e = rw e (go (ends_field s) (fields_of s))
  where
    go : (b : Bool) (fs : List (List ℕ)) → get_or (cond b ((c ∷ []) ∷ fs) (onto c fs)) 0 [] ≡ c ∷ cond b [] (get_or fs 0 [])
    go true fs = refl
    go false [] = refl
    go false (f ∷ fs) = refl

key-solid : (l : List ℕ) → has_blank (key_of l) ≡ false
key-solid [] = unfold key_of fields_of has_blank in refl
key-solid (c ∷ s) = go (is_blank c) refl (key-solid s)
  where
    rest : (b : Bool) → has_blank (key_of s) ≡ false → has_blank (cond b [] (key_of s)) ≡ false
    rest true h = unfold has_blank in refl
    rest false h = h

    go : (b : Bool) → is_blank c ≡ b → has_blank (key_of s) ≡ false → has_blank (key_of (c ∷ s)) ≡ false
    go true e h = rw (key-on c s e) h
    go false e h = rw (key-cut c s e) (unfold has_blank in rw e (rest (ends_field s) h))

key-clear : (l : List ℕ) → any_control l ≡ false → any_control (key_of l) ≡ false
key-clear [] k = unfold key_of fields_of any_control in refl
key-clear (c ∷ s) k = go (is_blank c) refl (or_left (is_control c) (any_control s) first) (key-clear s (or_right (is_control c) (any_control s) first))
  where
    first : is_control c || any_control s ≡ false
    first = unfold any_control in k

    rest : (b : Bool) → any_control (key_of s) ≡ false → any_control (cond b [] (key_of s)) ≡ false
    rest true h = unfold any_control in refl
    rest false h = h

    go : (b : Bool) → is_blank c ≡ b → is_control c ≡ false → any_control (key_of s) ≡ false → any_control (key_of (c ∷ s)) ≡ false
    go true e i h = rw (key-on c s e) h
    go false e i h = rw (key-cut c s e) (unfold any_control in rw i (rest (ends_field s) h))

-- it stands for what the line is, and so it is not empty
abbrev is_plain_mark : Mark → Bool
is_plain_mark Blank = false
is_plain_mark Comment = false
is_plain_mark SectionLine = false
is_plain_mark Plain = true

key-mark : (l : List ℕ) → mark_of l ≡ Plain → (t : List ℕ) → mark_of (key_of l ++ t) ≡ Plain
unfolding mark_of
key-mark [] m t = absurd (false≢true (ap is_plain_mark m))
key-mark (c ∷ s) m t = go (is_blank c) refl m (λ q. key-mark s q t)
  where
    go : (b : Bool) → is_blank c ≡ b → cond b (mark_of s) (cond (eqb c 35) Comment (cond (eqb c 91) SectionLine Plain)) ≡ Plain → (mark_of s ≡ Plain → mark_of (key_of s ++ t) ≡ Plain)
        → mark_of (key_of (c ∷ s) ++ t) ≡ Plain
    go true e q h = rw (key-on c s e) (h q)
    go false e q h = rw (key-cut c s e, e) q

key-some : (l : List ℕ) → mark_of l ≡ Plain → 1 ≤ length (key_of l)
unfolding mark_of
key-some l m = go (key_of l) (key-mark l m [])
  where
    go : (w : List ℕ) → mark_of (w ++ []) ≡ Plain → 1 ≤ length w
    go [] q = absurd (false≢true (ap is_plain_mark q))
    go (c ∷ w) q = omega arith

-- ---- The value: trimmed, and without control bytes where the line has none
blank-drop : (s : List ℕ) → blank_len (drop (blank_len s) s) ≡ 0
unfolding blank_len
blank-drop [] = refl
blank-drop (c ∷ s) = go (is_blank c) refl (blank-drop s)
  where
    go : (b : Bool) → is_blank c ≡ b → blank_len (drop (blank_len s) s) ≡ 0 → blank_len (drop (cond b (suc (blank_len s)) 0) (c ∷ s)) ≡ 0
    go true e h = h
    go false e h = rw e

blank-take : (s : List ℕ) → blank_len s ≡ 0 → blank_len (take (body_len s) s) ≡ 0
unfolding blank_len body_len
blank-take [] h = refl
blank-take (c ∷ s) h = go (is_blank c) refl h
  where
    go : (b : Bool) → is_blank c ≡ b → cond b (suc (blank_len s)) 0 ≡ 0 → blank_len (take (cond (b && eqb (body_len s) 0) 0 (suc (body_len s))) (c ∷ s)) ≡ 0
    go true e q = absurd (omega arith)
    go false e q = rw e

body-take : (s : List ℕ) → body_len (take (body_len s) s) ≡ body_len s
unfolding body_len
body-take [] = refl
body-take (c ∷ s) = go (is_blank c && eqb (body_len s) 0) refl (body-take s)
  where
    go : (b : Bool) → is_blank c && eqb (body_len s) 0 ≡ b → body_len (take (body_len s) s) ≡ body_len s
        → body_len (take (cond b 0 (suc (body_len s))) (c ∷ s)) ≡ cond b 0 (suc (body_len s))
    go true e h = refl
    go false e h = rw (h, e)

trim-once : (s : List ℕ) → trimmed (trimmed s) ≡ trimmed s
unfolding trimmed
trim-once s = body (drop (blank_len s) s) (blank-drop s)
  where
    body : (r : List ℕ) → blank_len r ≡ 0
        → take (body_len (drop (blank_len (take (body_len r) r)) (take (body_len r) r))) (drop (blank_len (take (body_len r) r)) (take (body_len r) r)) ≡ take (body_len r) r
    body r h =
        ap (λ (k : ℕ). take (body_len (drop k (take (body_len r) r))) (drop k (take (body_len r) r))) (blank-take r h)
        ∙ ap (λ (k : ℕ). take k (take (body_len r) r)) (body-take r)
        ∙ take_all (body_len r) (take (body_len r) r) (omega (arith, length-take (body_len r) r))

control-drop : (n : ℕ) (s : List ℕ) → any_control s ≡ false → any_control (drop n s) ≡ false
unfolding any_control
control-drop zero s h = h
control-drop (suc n) [] h = refl
control-drop (suc n) (c ∷ s) h = control-drop n s (or_right (is_control c) (any_control s) h)

control-take : (n : ℕ) (s : List ℕ) → any_control s ≡ false → any_control (take n s) ≡ false
unfolding any_control
control-take zero s h = refl
control-take (suc n) [] h = refl
control-take (suc n) (c ∷ s) h = rw (or_left (is_control c) (any_control s) h) (control-take n s (or_right (is_control c) (any_control s) h))

trim-clear : (s : List ℕ) → any_control s ≡ false → any_control (trimmed s) ≡ false
unfolding trimmed
trim-clear s h = control-take (body_len (drop (blank_len s) s)) (drop (blank_len s) s) (control-drop (blank_len s) s h)

-- ---- A line that keeps to LINE, is no comment and no section line, and has a value
module _ (l : List ℕ) (m : mark_of l ≡ Plain) (d : Defines l) where
  line_clear : any_control l ≡ false
  unfolding breaks_line is_comment
  line_clear = rw m at (or_right (ltb 1024 (length l)) (not (is_comment (mark_of l)) && any_control l) d.0)

  pub line-defining : Defining (key_of l) (value_of l)
  line-defining =
      record {
        word = record { some = le-leb 1 (length (key_of l)) (key-some l m); solid = key-solid l };
        some = key-some l m;
        plain = key-clear l line_clear;
        mark = key-mark l m;
        bare = unfold value_of in trim-once (drop (field_at l 0).stop l);
        worth = unfold is_definition in leb-true 1 (length (value_of l)) d.1;
        clear = unfold value_of in trim-clear (drop (field_at l 0).stop l) (control-drop (field_at l 0).stop l line_clear);
        short = definition-short l d;
      }

-- ---- Only such a line is a definition: in a file
section-other : (st : State) (k : ℕ) (p : Place) → is_defined (section_at st k p).found ≡ false
unfolding section_at enter_of early_section is_defined
section-other st k p = go p
  where
    enter : (b : Bool) → is_defined (cond b (went_of (entered st k (place_in k))) (refused_of st SectionFault)).found ≡ false
    enter true = refl
    enter false = refl

    first : (b : Bool) → is_defined (cond b (went_of (entered st 1 (Version Major))) (refused_of st VersionFault)).found ≡ false
    first true = refl
    first false = refl

    early : (b : Bool) → is_defined (cond b (refused_of st FieldFault) (refused_of st SectionFault)).found ≡ false
    early true = refl
    early false = refl

    go : (p : Place) → is_defined (section_at st k p).found ≡ false
    go Start = first (eqb k 1)
    go (Version due) = refl
    go (Section lines) = enter (may_enter st k)
    go (Extensions listed) = enter (may_enter st k)
    go (Head id n) = early (may_enter st k)
    go Values = enter (may_enter st k)
    go Signature = refl

module _ (st : State) (n : ℕ) where
  blank-other : is_defined (blank_step st st.place).found ≡ false
  unfolding step_of marked_step mark_of breaks_line any_control is_comment is_definition value_of field_at skipped word_len trimmed blank_len body_len
  blank-other = go (is_defined (blank_step st st.place).found) refl
    where
      go : (b : Bool) → is_defined (blank_step st st.place).found ≡ b → b ≡ false
      go true e = sym (step-defines st n [] e).1
      go false e = refl

  module _ (l : List ℕ) where
    step-plain : is_defined (step_of st n l).found ≡ true → mark_of l ≡ Plain
    unfolding step_of marked_step section_step is_defined
    step-plain e = go (breaks_line l) (mark_of l) e
      where
        marked : (m : Mark) → is_defined (marked_step st n l m).found ≡ true → m ≡ Plain
        marked Blank e = absurd (false≢true (sym blank-other ∙ e))
        marked Comment e = absurd (false≢true e)
        marked SectionLine e = absurd (false≢true (sym (section-other st (section_no l) st.place) ∙ e))
        marked Plain e = refl

        go : (b : Bool) (m : Mark) → is_defined (cond b (refused_of st LineFault) (marked_step st n l m)).found ≡ true → m ≡ Plain
        go true m e = absurd (false≢true e)
        go false m e = marked m e

    step-defining : is_defined (step_of st n l).found ≡ true → Defining (key_of l) (value_of l)
    step-defining e = line-defining l (step-plain e) (step-defines st n l e)

-- and in a site
site-plain : (l : List ℕ) → is_defined (site_line l) ≡ true → mark_of l ≡ Plain
unfolding site_line site_mark is_defined
site-plain l e = go (breaks_line l) (mark_of l) e
  where
    go : (b : Bool) (m : Mark) → is_defined (cond b (FoundFault LineFault) (site_mark l m)) ≡ true → m ≡ Plain
    go true m e = absurd (false≢true e)
    go false Blank e = absurd (false≢true e)
    go false Comment e = absurd (false≢true e)
    go false SectionLine e = absurd (false≢true e)
    go false Plain e = refl

site-defining : (l : List ℕ) → is_defined (site_line l) ≡ true → Defining (key_of l) (value_of l)
site-defining l e = line-defining l (site-plain l e) (site-defines l e)

-- ---- All of them
-- a line's, if it is one, in front of those of the lines behind it, unless it is at fault
one_line : (n : ℕ) (l : List ℕ) (fault is : Bool) → (is ≡ true → Defining (key_of l) (value_of l)) → {ds : List Definition} → AllDefining ds
    → AllDefining (cond fault [] (cond is (record { line = n; key = key_of l; value = value_of l } ∷ []) [] ++ ds))
one_line n l true is h all = none-defined
one_line n l false true h all = one-defined {d = record { line = n; key = key_of l; value = value_of l }} (h refl) all
one_line n l false false h all = all

from-defining : (st : State) (n : ℕ) (ls : List (List ℕ)) → AllDefining (definitions_from st n ls)
unfolding gathered definition_at
from-defining st n [] = none-defined
from-defining st n (l ∷ ls) =
    one_line n l (is_fault (step_of st n l).found) (is_defined (step_of st n l).found) (step-defining st n l) (from-defining (step_of st n l).next (suc n) ls)

pub file-defining : (file : List ℕ) → AllDefining (definitions_of file)
unfolding definitions_of
file-defining file = from-defining fresh 1 (lines_of file)

in-defining : (ls : List (List ℕ)) → AllDefining (site_in ls)
unfolding site_in site_at
in-defining [] = none-defined
in-defining (l ∷ ls) = one_line 0 l (is_fault (site_line l)) (is_defined (site_line l)) (site-defining l) (in-defining ls)

pub all-site-defining : (site : List ℕ) → AllDefining (site_definitions site)
unfolding site_definitions
all-site-defining site = in-defining (lines_of site)

-- ---- A key with the value that is sought for it, unless there is none
pub sought-defining : (key : List ℕ) {ds : List Definition} → AllDefining ds → 1 ≤ length (sought key ds) → Defining key (sought key ds)
unfolding sought
sought-defining key none-defined h = absurd (omega arith)
sought-defining key (one-defined {d} {ds} x q) h = go (same_bytes d.key key) refl h (λ g. sought-defining key q g)
  where
    go : (b : Bool) → same_bytes d.key key ≡ b → 1 ≤ length (cond b d.value (sought key ds)) → (1 ≤ length (sought key ds) → Defining key (sought key ds))
        → Defining key (cond b d.value (sought key ds))
    go true e g r = rw (same_true d.key key e) at x
    go false e g r = r g

-- ---- All that the section says, where each raster has a value in the file or in the site
append-defining : {ds es : List Definition} → AllDefining ds → AllDefining es → AllDefining (ds ++ es)
append-defining none-defined q = q
append-defining (one-defined {d} x p) q = one-defined {d = d} x (append-defining p q)

abbrev pub HasValue : List ℕ → List ℕ → List ℕ → Type 0
HasValue file site key = 1 ≤ length (definition_of file site key)

module _ (file site : List ℕ) where
  absent-defining : (key : List ℕ) → HasValue file site key → AllDefining (absent_of (definitions_of file) (site_definitions site) key)
  unfolding absent_of definition_of either_of
  absent-defining key r = go (eqb (length (sought key (definitions_of file))) 0) r
    where
      go : (b : Bool) → 1 ≤ length (cond b (sought key (site_definitions site)) (sought key (definitions_of file)))
          → AllDefining (cond b (record { line = 0; key = key; value = sought key (site_definitions site) } ∷ []) [])
      go true h = one-defined {d = record { line = 0; key = key; value = sought key (site_definitions site) }} (sought-defining key (all-site-defining site) h) none-defined
      go false h = none-defined

  abbrev pub HasRasters : Type 0
  HasRasters = HasValue file site gradient_key × (HasValue file site rf_key × (HasValue file site adc_key × HasValue file site block_key))

  added-defining : (target : Edition) → (target ≡ V14 → HasRasters) → AllDefining (added_of target (definitions_of file) (site_definitions site))
  unfolding added_of
  added-defining V13 h = none-defined
  added-defining V14 h =
      append-defining (absent-defining gradient_key (h refl).0)
      (append-defining (absent-defining rf_key (h refl).1.0) (append-defining (absent-defining adc_key (h refl).1.1.0) (absent-defining block_key (h refl).1.1.1)))

  pub said-defining : (target : Edition) → (target ≡ V14 → HasRasters) → AllDefining (said_definitions target file site)
  unfolding said_definitions
  said-defining target h = append-defining (file-defining file) (added-defining target h)
