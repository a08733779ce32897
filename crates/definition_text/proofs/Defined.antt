-- A line is a definition only where it keeps to LINE and has a value, and it is then no shorter than its key, a space and its value. Assumes nothing.
use Rattle.std.proofs.Common.{None, Option, Some}
use Prim.Native.Nat.{ℕ, suc, ◌+◌, ◌-◌, ◌≤◌, ◌<◌}
use mathlib.Core.Bool.{Bool, true, false, cond, not, ◌&&◌, false≢true}
use mathlib.Core.List.{List, [], ◌∷◌}
use mathlib.Core.Logic.{⊎_elim}
use mathlib.Core.Path.{◌≡◌, refl, sym, ◌∙◌}
use native.Mathlib.Omega.{arith}
use borrow.Author.Tests.{leb-true, ltb-false}
use lib.Dec.{eqb, ltb}
use lib.IntN.{ℤ}
use lib.ListN.{length, drop, length-take, length-drop}
use lib.Seq.{drop-drop}
use Rattle.text.specs.Blanks.{blank_len, skipped}
use Rattle.text.specs.Marks.{is_blank, is_comment, mark_of, any_control, breaks_line}
use Rattle.text.specs.declared.Mark.{Mark}
use Rattle.text.specs.declared.Mark.TheVariants.{Blank, Comment, Section as SectionLine, Plain}
use Rattle.text.proofs.Cases.{lt-or-ge}
use Rattle.text.proofs.Lines.{or_left}
use Rattle.fields.specs.Fields.{ends_field, fields_of, body_len, trimmed, word_len, field_at}
use Rattle.fields.proofs.Cut.{no_field, field-at, field-inside}
use Rattle.shape.specs.Stored.{item_of}
use Rattle.shape.specs.declared.Item.{Item}
use Rattle.shape.specs.declared.Item.TheVariants.{Value as ItemValue, Skipped, Bad as ItemBad}
use Rattle.columns.specs.declared.Form.{Form}
use Rattle.heads.specs.declared.Label.{Label as LabelLine}
use Rattle.heads.specs.declared.Extension.{Extension as ExtensionLine}
use Rattle.places.specs.Places.{went_of, refused_of}
use Rattle.places.specs.declared.Due.{Due}
use Rattle.places.specs.declared.Due.TheVariants.{Major, Minor, Revision}
use Rattle.places.specs.declared.Fault.TheVariants.{Line as LineFault, Version as VersionFault, Section as SectionFault, Field as FieldFault}
use Rattle.places.specs.declared.Lines.{Lines}
use Rattle.places.specs.declared.Lines.TheVariants.{None as NoLines, Definitions, Rows, Shapes}
use Rattle.places.specs.declared.Listed.{Listed}
use Rattle.places.specs.declared.Listed.TheVariants.{Entries, Triggers, Labels, Unknown}
use Rattle.places.specs.declared.Place.{Place}
use Rattle.places.specs.declared.Place.TheVariants.{Start, Version, Section, Extensions, Head, Values, Signature}
use Rattle.places.specs.declared.State.{State}
use Rattle.places.specs.declared.Stepped.{Stepped}
use Rattle.sections.specs.Entering.{may_enter, entered, enter_of, early_section, section_at, section_step}
use Rattle.sections.specs.Sections.{section_no, place_in}
use Rattle.sections.specs.Version.{version_row, minor_row, version_step}
use Rattle.grammar.specs.Definitions.{key_of, value_of, is_definition}
use Rattle.grammar.specs.Steps.{defined_of, gave_of, blank_step, definition_step, given_row, row_step, label_row, label_step, extension_row, extension_step, is_extension, listed_step, extensions_step, head_row, head_step, count_row, count_step, value_row, lines_step, plain_step, marked_step, step_of}
use Rattle.file.specs.Whole.{is_defined}

-- ---- lines that are none
abbrev Other : Stepped → Type 0
Other r = is_defined r.found ≡ false

other-cond : (b : Bool) (x y : Stepped) → Other x → Other y → Other (cond b x y)
other-cond true x y h k = h
other-cond false x y h k = k

clash : {A : Type 0} {b : Bool} → b ≡ false → b ≡ true → A
clash h e = absurd (false≢true (sym h ∙ e))

module _ (st : State) where
  other-blank : (p : Place) → Other (blank_step st p)
  unfolding blank_step is_defined
  other-blank Start = refl
  other-blank (Version due) = refl
  other-blank (Section lines) = refl
  other-blank (Extensions listed) = refl
  other-blank (Head id n) = refl
  other-blank Values = refl
  other-blank Signature = refl

  other-enter : (k : ℕ) → Other (enter_of st k)
  unfolding enter_of is_defined
  other-enter k = other-cond (may_enter st k) (went_of (entered st k (place_in k))) (refused_of st SectionFault) refl refl

  other-section : (k : ℕ) (p : Place) → Other (section_at st k p)
  unfolding section_at early_section is_defined
  other-section k Start = other-cond (eqb k 1) (went_of (entered st 1 (Version Major))) (refused_of st VersionFault) refl refl
  other-section k (Version due) = refl
  other-section k (Section lines) = other-enter k
  other-section k (Extensions listed) = other-enter k
  other-section k (Head id n) = other-cond (may_enter st k) (refused_of st FieldFault) (refused_of st SectionFault) refl refl
  other-section k Values = other-enter k
  other-section k Signature = refl

  other-version-row : (next : State) (v : (Option ℕ)) → Other (version_row st next v)
  unfolding version_row is_defined
  other-version-row next (Some v) = refl
  other-version-row next None = refl

  other-minor : (v : (Option ℕ)) → Other (minor_row st v)
  unfolding minor_row is_defined
  other-minor (Some v) = refl
  other-minor None = refl

  other-version : (fields : List (List ℕ)) (due : Due) → Other (version_step st fields due)
  unfolding version_step
  other-version fields Major = other-version-row _ _
  other-version fields Minor = other-minor _
  other-version fields Revision = other-version-row _ _

  module _ (n : ℕ) where
    other-given : (row : (Option (List ℤ))) → Other (given_row st n row)
    unfolding given_row is_defined
    other-given (Some cells) = refl
    other-given None = refl

    other_row : (form : Form) (fields : List (List ℕ)) → Other (row_step st n form fields)
    unfolding row_step
    other_row form fields = other-given _

    other-label-row : (increment : Bool) (h : Option LabelLine) → Other (label_row st n increment h)
    unfolding label_row is_defined
    other-label-row increment (Some line) = refl
    other-label-row increment None = refl

    other-extension : (h : Option ExtensionLine) → Other (extension_row st n h)
    unfolding extension_row is_defined
    other-extension (Some line) = refl
    other-extension None = refl

    other-listed : (fields : List (List ℕ)) (listed : Listed) → Other (listed_step st n fields listed)
    unfolding listed_step label_step is_defined
    other-listed fields Entries = other_row _ fields
    other-listed fields Triggers = other_row _ fields
    other-listed fields (Labels increment) = other-label-row increment _
    other-listed fields Unknown = refl

    other-extensions : (fields : List (List ℕ)) (listed : Listed) → Other (extensions_step st n fields listed)
    unfolding extensions_step extension_step
    other-extensions fields listed = other-cond (is_extension fields) (extension_step st n fields) (listed_step st n fields listed) (other-extension _) (other-listed fields listed)

    other-head : (v : (Option ℕ)) → Other (head_row st n v)
    unfolding head_row is_defined
    other-head (Some v) = refl
    other-head None = refl

    other-count : (id : ℤ) (v : (Option ℕ)) → Other (count_row st id n v)
    unfolding count_row is_defined
    other-count id (Some v) = refl
    other-count id None = refl

  other-value : (i : Item) → Other (value_row st i)
  unfolding value_row is_defined
  other-value (ItemValue d) = refl
  other-value Skipped = refl
  other-value ItemBad = refl

-- ---- a definition keeps to LINE and has a value
abbrev pub Defines : List ℕ → Type 0
Defines line = (breaks_line line ≡ false) × (is_definition line ≡ true)

module _ (st : State) (n : ℕ) (line : List ℕ) where
  lines-define : (lines : Lines) → is_defined (lines_step st n line lines).found ≡ true → is_definition line ≡ true
  unfolding lines_step head_step definition_step is_defined
  lines-define NoLines e = absurd (false≢true e)
  lines-define Definitions e = go (is_definition line) e
    where
      go : (b : Bool) → is_defined (cond b (defined_of st) (refused_of st FieldFault)).found ≡ true → b ≡ true
      go true e = refl
      go false e = absurd (false≢true e)
  lines-define (Rows form) e = clash (other_row st n form (fields_of line)) e
  lines-define Shapes e = clash (other-head st n _) e

  plain-defines : (p : Place) → is_defined (plain_step st n line p).found ≡ true → is_definition line ≡ true
  unfolding plain_step count_step is_defined
  plain-defines Start e = absurd (false≢true e)
  plain-defines (Version due) e = clash (other-version st (fields_of line) due) e
  plain-defines (Section lines) e = lines-define lines e
  plain-defines (Extensions listed) e = clash (other-extensions st n (fields_of line) listed) e
  plain-defines (Head id m) e = clash (other-count st m id _) e
  plain-defines Values e = clash (other-value st (item_of line)) e
  plain-defines Signature e = absurd (false≢true e)

  marked-defines : (m : Mark) → is_defined (marked_step st n line m).found ≡ true → is_definition line ≡ true
  unfolding marked_step section_step is_defined
  marked-defines Comment e = absurd (false≢true e)
  marked-defines Blank e = clash (other-blank st st.place) e
  marked-defines SectionLine e = clash (other-section st (section_no line) st.place) e
  marked-defines Plain e = plain-defines st.place e

  pub step-defines : is_defined (step_of st n line).found ≡ true → Defines line
  unfolding step_of is_defined
  step-defines e = go (breaks_line line) e
    where
      go : (b : Bool) → is_defined (cond b (refused_of st LineFault) (marked_step st n line (mark_of line))).found ≡ true → (b ≡ false) × (is_definition line ≡ true)
      go true e = absurd (false≢true e)
      go false e = (refl, marked-defines (mark_of line) e)

-- ---- its key, a space and its value are no longer than the line
word-ends : (s : List ℕ) → ends_field (drop (word_len s) s) ≡ true
unfolding word_len ends_field
word-ends [] = refl
word-ends (c ∷ s) = go (is_blank c) refl (word-ends s)
  where
    go : (b : Bool) → is_blank c ≡ b → ends_field (drop (word_len s) s) ≡ true → ends_field (drop (cond b 0 (suc (word_len s))) (c ∷ s)) ≡ true
    go true e h = e
    go false e h = h

-- what starts with a blank is trimmed by it
trim-shorter : (s : List ℕ) → ends_field s ≡ true → 1 ≤ length (trimmed s) → length (trimmed s) + 1 ≤ length s
unfolding ends_field trimmed blank_len body_len
trim-shorter [] e h = absurd (omega arith)
trim-shorter (c ∷ s) e h = rw e (omega (arith, length-take (body_len (drop (blank_len s) s)) (drop (blank_len s) s), length-drop (blank_len s) s))

module _ (line : List ℕ) where
  key-short : length (key_of line) ≤ (field_at line 0).stop
  unfolding key_of
  key-short =
      ⊎_elim
      (λ (h : (field_at line 0).start < length line). let f = field-at line 0 (field_at line 0) refl h in
      rw f.field (omega (arith, length-take ((field_at line 0).stop - (field_at line 0).start) (drop (field_at line 0).start line))))
      (λ (h : length line ≤ (field_at line 0).start). rw (no_field line 0 (field_at line 0) refl h) (omega arith))
      (lt-or-ge (field_at line 0).start (length line))

  key-ends : ends_field (drop (field_at line 0).stop line) ≡ true
  unfolding field_at
  key-ends = rw (← drop-drop) (word-ends (drop (skipped line 0) line))

  pub definition-fits : is_definition line ≡ true → length (key_of line) + 1 + length (value_of line) ≤ length line
  unfolding is_definition value_of
  definition-fits e =
      let v = leb-true 1 (length (value_of line)) e in
      omega (arith, trim-shorter (drop (field_at line 0).stop line) key-ends v, length-drop (field_at line 0).stop line, key-short, field-inside line 0 (field_at line 0) refl (omega arith))

  pub definition-short : Defines line → length (key_of line) + 1 + length (value_of line) ≤ 1024
  unfolding breaks_line
  definition-short d = omega (arith, definition-fits d.1, ltb-false 1024 (length line) (or_left (ltb 1024 (length line)) (not (is_comment (mark_of line)) && any_control line) d.0))
