-- The row of a shape is the line `num_samples`: behind it the file stands among values. Assumes nothing.
use Rattle.std.proofs.Common.{Option, None, Some}
use Prim.Native.Nat.{ℕ}
use mathlib.Core.Bool.{Bool, true, false, cond, true≢false, ◌&&◌}
use mathlib.Core.List.{List, [], ◌∷◌}
use mathlib.Core.Path.{◌≡◌, refl, sym, ◌∙◌}
use lib.Dec.{eqb}
use lib.IntN.{ℤ, pos}
use lib.ListN.{get_or}
use Rattle.text.specs.Marks.{mark_of, breaks_line}
use Rattle.text.specs.declared.Mark.{Mark}
use Rattle.text.specs.declared.Mark.TheVariants.{Blank, Comment, Section as SectionLine, Plain}
use Rattle.fields.specs.Fields.{fields_of}
use Rattle.signed.specs.Signed.{same_z}
use Rattle.numeral.specs.Integer.{largest_id}
use Rattle.shape.specs.Stored.{item_of}
use Rattle.shape.specs.declared.Item.{Item}
use Rattle.shape.specs.declared.Item.TheVariants.{Value as ItemValue, Skipped, Bad as ItemBad}
use Rattle.columns.specs.Columns.{columns_of, form_number, shape_kind, most_of}
use Rattle.columns.specs.declared.Form.{Form}
use Rattle.columns.specs.declared.Form.TheVariants.{Block, Rf, Gradient, Trap, Adc, Delay, Entry, Trigger}
use Rattle.columns.specs.declared.Kind.TheVariants.{Count}
use Rattle.rows.specs.Cells.{row_from, row_is}
use Rattle.heads.specs.Heads.{label_of, extension_of, word_number_of}
use Rattle.heads.specs.declared.Label.{Label as LabelLine}
use Rattle.heads.specs.declared.Extension.{Extension as ExtensionLine}
use Rattle.sections.specs.Sections.{section_no}
use Rattle.sections.specs.Entering.{may_enter, enter_of, early_section, section_at, section_step}
use Rattle.sections.specs.Version.{major_word, minor_word, revision_word, version_row, minor_row, version_step}
use Rattle.places.specs.declared.Due.{Due}
use Rattle.places.specs.declared.Due.TheVariants.{Major, Minor, Revision}
use Rattle.places.specs.declared.Lines.{Lines}
use Rattle.places.specs.declared.Lines.TheVariants.{None as NoLines, Definitions, Rows, Shapes}
use Rattle.places.specs.declared.Listed.{Listed}
use Rattle.places.specs.declared.Listed.TheVariants.{Entries, Triggers, Labels, Unknown}
use Rattle.places.specs.declared.Place.{Place}
use Rattle.places.specs.declared.Place.TheVariants.{Start, Version, Section, Extensions, Head, Values, Signature}
use Rattle.places.specs.declared.State.{State}
use Rattle.places.specs.declared.Stepped.{Stepped}
use Rattle.grammar.specs.Definitions.{is_definition}
use Rattle.grammar.specs.Steps.{blank_step, definition_step, given_row, row_step, label_row, label_step, extension_row, extension_step, is_extension, listed_step, extensions_step, shape_id_word, num_samples_word, head_row, head_step, counted_of, count_row, count_step, value_row, lines_step, plain_step, marked_step, step_of}
use Rattle.file.specs.Whole.{is_row}
use Rattle.passing.proofs.Over.{kind-of}
use Rattle.stored.specs.Shapes.{is_shape}

-- ---- rows by columns are of other kinds
pub form-other : (form : Form) → same_z (pos (form_number form)) (pos shape_kind) ≡ false
unfolding same_z
form-other Block = refl
form-other Rf = refl
form-other Gradient = refl
form-other Trap = refl
form-other Adc = refl
form-other Delay = refl
form-other Entry = refl
form-other Trigger = refl

-- ---- a line gives no row, or one of another kind, or leads to the values of a shape
data Counted (s : Stepped) : Type 0 where
  silent : is_row s.found ≡ false → Counted s
  other : same_z (get_or s.cells 0 (pos 0)) (pos shape_kind) ≡ false → Counted s
  values : s.next.place ≡ Values → Counted s

either : (b : Bool) {s t : Stepped} → Counted s → Counted t → Counted (cond b s t)
either true x y = x
either false x y = y

module _ (st : State) (n : ℕ) where
  -- ---- section lines, blank lines and VERSION give nothing
  enters : (k : ℕ) → Counted (enter_of st k)
  unfolding enter_of is_row
  enters k = either (may_enter st k) (silent refl) (silent refl)

  at-section : (k : ℕ) (place : Place) → Counted (section_at st k place)
  unfolding section_at early_section is_row
  at-section k Start = either (eqb k 1) (silent refl) (silent refl)
  at-section k (Version due) = silent refl
  at-section k (Section lines) = enters k
  at-section k (Extensions listed) = enters k
  at-section k (Head id m) = either (may_enter st k) (silent refl) (silent refl)
  at-section k Values = enters k
  at-section k Signature = silent refl

  at-blank : (place : Place) → Counted (blank_step st place)
  unfolding blank_step is_row
  at-blank Start = silent refl
  at-blank (Version due) = silent refl
  at-blank (Section lines) = silent refl
  at-blank (Extensions listed) = silent refl
  at-blank (Head id m) = silent refl
  at-blank Values = silent refl
  at-blank Signature = silent refl

  version-row : (next : State) (v : (Option ℕ)) → Counted (version_row st next v)
  unfolding version_row is_row
  version-row next (Some v) = silent refl
  version-row next None = silent refl

  minor-row : (v : (Option ℕ)) → Counted (minor_row st v)
  unfolding minor_row is_row
  minor-row (Some v) = silent refl
  minor-row None = silent refl

  at-version : (fields : List (List ℕ)) (due : Due) → Counted (version_step st fields due)
  unfolding version_step
  at-version fields Major = version-row _ (word_number_of major_word 1 1 fields)
  at-version fields Minor = minor-row (word_number_of minor_word 3 4 fields)
  at-version fields Revision = version-row _ (word_number_of revision_word 0 1 fields)

  -- ---- rows of other kinds
  by_form : (form : Form) (fields : List (List ℕ)) → Counted (row_step st n form fields)
  unfolding row_step given_row row_is is_row
  by_form form fields = go (row_from (columns_of st.edition form) fields)
    where
      go : (o : Option (List ℤ)) → Counted (given_row st n (row_is form o))
      go None = silent refl
      go (Some vs) = other (rw (kind-of (form_number form) vs) (form-other form))

  at_label : (increment : Bool) (l : Option LabelLine) → Counted (label_row st n increment l)
  unfolding label_row is_row same_z
  at_label increment (Some line) = other (rw (kind-of 10 (pos line.id ∷ pos (cond increment 1 0) ∷ line.value ∷ pos line.label ∷ [])) refl)
  at_label increment None = silent refl

  at-extension : (l : Option ExtensionLine) → Counted (extension_row st n l)
  unfolding extension_row is_row same_z
  at-extension (Some line) = other (rw (kind-of 8 (pos line.number ∷ pos line.code ∷ [])) refl)
  at-extension None = silent refl

  at_listed : (fields : List (List ℕ)) (listed : Listed) → Counted (listed_step st n fields listed)
  unfolding listed_step label_step is_row
  at_listed fields Entries = by_form Entry fields
  at_listed fields Triggers = by_form Trigger fields
  at_listed fields (Labels increment) = at_label increment (label_of st.edition increment fields)
  at_listed fields Unknown = silent refl

  at_head : (v : (Option ℕ)) → Counted (head_row st n v)
  unfolding head_row is_row
  at_head (Some id) = silent refl
  at_head None = silent refl

  at-lines : (line : List ℕ) (lines : Lines) → Counted (lines_step st n line lines)
  unfolding lines_step definition_step head_step is_row
  at-lines line NoLines = silent refl
  at-lines line Definitions = either (is_definition line) (silent refl) (silent refl)
  at-lines line (Rows form) = by_form form (fields_of line)
  at-lines line Shapes = at_head (word_number_of shape_id_word 1 largest_id (fields_of line))

  -- ---- and that of a shape leads to its values
  at_count : (id : ℤ) (m : ℕ) (v : (Option ℕ)) → Counted (count_row st id m v)
  unfolding count_row counted_of is_row
  at_count id m (Some num) = values refl
  at_count id m None = silent refl

  at_value : (i : Item) → Counted (value_row st i)
  unfolding value_row is_row
  at_value (ItemValue d) = silent refl
  at_value Skipped = silent refl
  at_value ItemBad = silent refl

  at_plain : (line : List ℕ) (place : Place) → Counted (plain_step st n line place)
  unfolding plain_step extensions_step extension_step count_step is_row
  at_plain line Start = silent refl
  at_plain line (Version due) = at-version (fields_of line) due
  at_plain line (Section lines) = at-lines line lines
  at_plain line (Extensions listed) = either (is_extension (fields_of line)) (at-extension (extension_of (fields_of line))) (at_listed (fields_of line) listed)
  at_plain line (Head id m) = at_count id m (word_number_of num_samples_word 1 (most_of Count) (fields_of line))
  at_plain line Values = at_value (item_of line)
  at_plain line Signature = silent refl

  at-marked : (line : List ℕ) (mark : Mark) → Counted (marked_step st n line mark)
  unfolding marked_step section_step is_row
  at-marked line Comment = silent refl
  at-marked line Blank = at-blank st.place
  at-marked line SectionLine = at-section (section_no line) st.place
  at-marked line Plain = at_plain line st.place

  counted : (line : List ℕ) → Counted (step_of st n line)
  unfolding step_of is_row
  counted line = either (breaks_line line) (silent refl) (at-marked line (mark_of line))

  pub shape-values : (id : ℤ) (line : List ℕ) → is_shape id (step_of st n line) ≡ true → (step_of st n line).next.place ≡ Values
  shape-values id line = go (step_of st n line) (counted line)
    where
      none_of : (s : Stepped) → is_shape id s ≡ false → is_shape id s ≡ true → s.next.place ≡ Values
      none_of s f e = absurd (true≢false (sym e ∙ f))

      never : (b : Bool) → b && false ≡ false
      never true = refl
      never false = refl

      go : (s : Stepped) → Counted s → is_shape id s ≡ true → s.next.place ≡ Values
      go s (silent f) = unfold is_shape in none_of s (rw f)
      go s (other f) = unfold is_shape in none_of s (rw f (never (is_row s.found)))
      go s (values e) = λ h. e
