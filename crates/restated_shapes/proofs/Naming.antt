-- What the lines of a text name, beside the definitions and the rows that they give: a key each definition, a name each row of an extension, and its
-- code is the name's. Assumes nothing.
use Rattle.std.proofs.Common.{Option, None, Some}
use Prim.Native.Nat.{ℕ, suc}
use mathlib.Core.Bool.{Bool, true, false, cond, ◌&&◌, true≢false}
use mathlib.Core.List.{List, [], ◌∷◌, ◌++◌}
use mathlib.Core.Path.{◌≡◌, refl, sym, ap, ◌∙◌}
use native.Mathlib.Omega.{arith}
use lib.Dec.{eqb}
use lib.IntN.{ℤ, pos}
use lib.ListN.{get_or}
use Rattle.text.specs.Lines.{lines_of}
use Rattle.text.specs.Marks.{mark_of, breaks_line}
use Rattle.text.specs.declared.Mark.{Mark}
use Rattle.text.specs.declared.Mark.TheVariants.{Blank, Comment, Section as SectionLine, Plain}
use Rattle.text.specs.Words.{same_bytes, place_of}
use Rattle.fields.specs.Fields.{fields_of}
use Rattle.signed.specs.Signed.{same_z}
use Rattle.signed.proofs.Sign.{same_z-refl, same_z-true}
use Rattle.numeral.specs.Integer.{largest_id, integer_of}
use Rattle.shape.specs.Stored.{item_of}
use Rattle.shape.specs.declared.Item.{Item}
use Rattle.shape.specs.declared.Item.TheVariants.{Value as ItemValue, Skipped, Bad as ItemBad}
use Rattle.columns.specs.Columns.{columns_of, form_number, extension_kind, most_of}
use Rattle.columns.specs.Rows.{padded}
use Rattle.columns.specs.declared.Form.{Form}
use Rattle.columns.specs.declared.Form.TheVariants.{Entry, Trigger}
use Rattle.columns.specs.declared.Kind.TheVariants.{Count}
use Rattle.rows.specs.Cells.{row_from, row_is}
use Rattle.heads.specs.Heads.{label_of, extension_names, extension_word, is_name, extension_head, extension_fields, extension_of, word_number_of}
use Rattle.heads.specs.declared.Label.{Label as LabelLine}
use Rattle.sections.specs.Sections.{section_no}
use Rattle.sections.specs.Entering.{may_enter, enter_of, early_section, section_at, section_step}
use Rattle.sections.specs.Version.{major_word, minor_word, revision_word, version_row, minor_row, version_step}
use Rattle.places.specs.Places.{fresh, went_of, refused_of}
use Rattle.places.specs.declared.Due.{Due}
use Rattle.places.specs.declared.Due.TheVariants.{Major, Minor, Revision}
use Rattle.places.specs.declared.Lines.{Lines}
use Rattle.places.specs.declared.Lines.TheVariants.{None as NoLines, Definitions, Rows, Shapes}
use Rattle.places.specs.declared.Listed.{Listed}
use Rattle.places.specs.declared.Listed.TheVariants.{Entries, Triggers, Labels, Unknown}
use Rattle.places.specs.declared.Place.{Place}
use Rattle.places.specs.declared.Place.TheVariants.{Start, Version, Section, Extensions, Head, Values, Signature}
use Rattle.places.specs.declared.Fault.{Fault}
use Rattle.places.specs.declared.Found.{Found}
use Rattle.places.specs.declared.Found.TheVariants.{Nothing, Row as FoundRow, Definition as FoundDefinition, Fault as FoundFault}
use Rattle.places.specs.declared.State.{State}
use Rattle.places.specs.declared.Stepped.{Stepped}
use Rattle.grammar.specs.Definitions.{key_of, value_of, is_definition}
use Rattle.grammar.specs.Steps.{defined_of, gave_of, blank_step, definition_step, given_row, row_step, label_row, label_step, extension_row, extension_step, is_extension, listed_step, extensions_step, shape_id_word, num_samples_word, head_row, head_step, count_row, count_step, value_row, lines_step, plain_step, marked_step, step_of}
use Rattle.file.specs.Whole.{is_fault, is_row, is_defined, gathered}
use Rattle.file.specs.Rows.{Placed, row_at, rows_from, rows_of}
use Rattle.file_laws.proofs.Padded.{own-number}
use Rattle.definitions.specs.Definitions.{Definition, definition_at, definitions_from, definitions_of}
use Rattle.duplicates.specs.declared.Sort.TheVariants.{Key, Name}
use Rattle.duplicates.specs.Words.{row_names, found_names, once_of, word_of, Word, words_in, word_at, words_from, words_of}
use Rattle.restated_shapes.proofs.Front.{kind-is, no-extension}

-- ---- The row of an extension, which a line with this name as its second field gives
pub record Coded (name : List ℕ) (cells : List ℤ) : Type 0 where
  pub kind : get_or cells 0 (pos 0) ≡ pos extension_kind
  pub code : get_or cells 2 (pos 0) ≡ pos (place_of extension_names name)

-- a row of another kind
unfoldable pub NoCode : List ℤ → Type 0
NoCode cells = same_z (get_or cells 0 (pos 0)) (pos extension_kind) ≡ false

pub no_code : (cells : List ℤ) → NoCode cells → get_or cells 0 (pos 0) ≡ pos extension_kind → ⊥
unfolding NoCode
no_code cells o e = true≢false (sym (same_z-refl (pos extension_kind)) ∙ ap (λ (z : ℤ). same_z z (pos extension_kind)) (sym e) ∙ o)

pub kind-no-code : (kind : ℕ) (vs : List ℤ) → eqb kind extension_kind ≡ false → NoCode (padded kind vs)
unfolding NoCode same_z
kind-no-code kind vs e = rw (kind-is kind vs) e

-- what a line gives, if it is a row of an extension, has the code of this name
record Named (name : List ℕ) (r : Stepped) : Type 0 where
  coded : r.found ≡ FoundRow → get_or r.cells 0 (pos 0) ≡ pos extension_kind → Coded name r.cells

module _ (st : State) (n : ℕ) (name : List ℕ) where
  -- lines that give no row, and rows of other kinds
  went : (next : State) → Named name (went_of next)
  went next = record { coded = λ e. absurd (let z : ◌≡◌ {A = ℕ} 0 1 = cc in omega arith) }

  refused : (f : Fault) → Named name (refused_of st f)
  refused f = record { coded = λ e. absurd (let z : ◌≡◌ {A = ℕ} 0 1 = cc in omega arith) }

  defined : Named name (defined_of st)
  defined = record { coded = λ e. absurd (let z : ◌≡◌ {A = ℕ} 0 1 = cc in omega arith) }

  gave : (next : State) (m kind : ℕ) (vs : List ℤ) → eqb kind extension_kind ≡ false → Named name (gave_of next m (padded kind vs))
  gave next m kind vs o = record { coded = λ e k. absurd (no_code (padded kind vs) (kind-no-code kind vs o) k) }

  either : (b : Bool) (x y : Stepped) → Named name x → Named name y → Named name (cond b x y)
  either true x y p q = p
  either false x y p q = q

  -- blank lines, sections and VERSION
  blank-named : (place : Place) → Named name (blank_step st place)
  unfolding blank_step
  blank-named Start = went st
  blank-named (Version due) = went st
  blank-named (Section lines) = went st
  blank-named (Extensions listed) = went st
  blank-named (Head id m) = refused _
  blank-named Values = went _
  blank-named Signature = went st

  enter-named : (k : ℕ) → Named name (enter_of st k)
  unfolding enter_of
  enter-named k = either (may_enter st k) _ _ (went _) (refused _)

  section-named : (k : ℕ) (place : Place) → Named name (section_at st k place)
  unfolding section_at early_section
  section-named k Start = either (eqb k 1) _ _ (went _) (refused _)
  section-named k (Version due) = refused _
  section-named k (Section lines) = enter-named k
  section-named k (Extensions listed) = enter-named k
  section-named k (Head id m) = either (may_enter st k) _ _ (refused _) (refused _)
  section-named k Values = enter-named k
  section-named k Signature = refused _

  version-named : (next : State) (v : (Option ℕ)) → Named name (version_row st next v)
  unfolding version_row
  version-named next (Some v) = went next
  version-named next None = refused _

  minor-named : (v : (Option ℕ)) → Named name (minor_row st v)
  unfolding minor_row
  minor-named (Some v) = went _
  minor-named None = refused _

  due-named : (fields : List (List ℕ)) (due : Due) → Named name (version_step st fields due)
  unfolding version_step
  due-named fields Major = version-named _ (word_number_of major_word 1 1 fields)
  due-named fields Minor = minor-named (word_number_of minor_word 3 4 fields)
  due-named fields Revision = version-named _ (word_number_of revision_word 0 1 fields)

  -- rows by their columns, labels and shapes
  row_named : (form : Form) (fields : List (List ℕ)) → Named name (row_step st n form fields)
  unfolding row_step given_row row_is
  row_named form fields = go (row_from (columns_of st.edition form) fields)
    where
      go : (o : Option (List ℤ)) → Named name (given_row st n (row_is form o))
      go None = refused _
      go (Some vs) = gave st n (form_number form) vs (no-extension form)

  label-named : (increment : Bool) (l : Option LabelLine) → Named name (label_row st n increment l)
  unfolding label_row
  label-named increment (Some line) = gave st n 10 _ refl
  label-named increment None = refused _

  listed-named : (fields : List (List ℕ)) (listed : Listed) → Named name (listed_step st n fields listed)
  unfolding listed_step label_step
  listed-named fields Entries = row_named Entry fields
  listed-named fields Triggers = row_named Trigger fields
  listed-named fields (Labels increment) = label-named increment (label_of st.edition increment fields)
  listed-named fields Unknown = went st

  head-named : (v : (Option ℕ)) → Named name (head_row st n v)
  unfolding head_row
  head-named (Some id) = went _
  head-named None = refused _

  count-named : (id : ℤ) (m : ℕ) (v : (Option ℕ)) → Named name (count_row st id m v)
  unfolding count_row
  count-named id m (Some num) = gave _ m 11 _ refl
  count-named id m None = refused _

  value-named : (i : Item) → Named name (value_row st i)
  unfolding value_row
  value-named (ItemValue d) = went st
  value-named Skipped = went st
  value-named ItemBad = refused _

  lines-named : (line : List ℕ) (lines : Lines) → Named name (lines_step st n line lines)
  unfolding lines_step definition_step head_step
  lines-named line NoLines = refused _
  lines-named line Definitions = either (is_definition line) _ _ defined (refused _)
  lines-named line (Rows form) = row_named form (fields_of line)
  lines-named line Shapes = head-named (word_number_of shape_id_word 1 largest_id (fields_of line))

  -- `extension NAME type`
  named-row : (v : (Option ℕ)) → Named name (extension_row st n (extension_head v (place_of extension_names name)))
  unfolding extension_row extension_head
  named-row (Some type) =
      let vs = pos type ∷ pos (place_of extension_names name) ∷ [] in
      record { coded = λ e k. record { kind = kind-is extension_kind vs; code = own-number extension_kind vs (omega arith) 1 } }
  named-row None = refused _

module _ (st : State) (n : ℕ) where
  extension-named : (fields : List (List ℕ)) → Named (get_or fields 1 []) (extension_row st n (extension_of fields))
  unfolding extension_of extension_fields
  extension-named [] = unfold extension_row in refused st n [] _
  extension-named (f ∷ []) = unfold extension_row in refused st n [] _
  extension-named (f ∷ g ∷ []) = unfold extension_row in refused st n g _
  extension-named (f ∷ g ∷ h ∷ []) = go (same_bytes f extension_word && is_name g)
    where
      go : (b : Bool) → Named g (extension_row st n (cond b (extension_head (integer_of 1 largest_id h) (place_of extension_names g)) None))
      go true = named-row st n g (integer_of 1 largest_id h)
      go false = unfold extension_row in refused st n g _
  extension-named (f ∷ g ∷ h ∷ k ∷ fs) = unfold extension_row in refused st n g _

  -- every line
  plain-named : (line : List ℕ) (place : Place) → Named (get_or (fields_of line) 1 []) (plain_step st n line place)
  unfolding plain_step extensions_step extension_step count_step
  plain-named line Start = refused st n _ _
  plain-named line (Version due) = due-named st n _ (fields_of line) due
  plain-named line (Section lines) = lines-named st n _ line lines
  plain-named line (Extensions listed) = either st n _ (is_extension (fields_of line)) _ _ (extension-named (fields_of line)) (listed-named st n _ (fields_of line) listed)
  plain-named line (Head id m) = count-named st n _ id m (word_number_of num_samples_word 1 (most_of Count) (fields_of line))
  plain-named line Values = value-named st n _ (item_of line)
  plain-named line Signature = went st n _ st

  marked-named : (line : List ℕ) (mark : Mark) → Named (get_or (fields_of line) 1 []) (marked_step st n line mark)
  unfolding marked_step section_step
  marked-named line Comment = went st n _ st
  marked-named line Blank = blank-named st n _ st.place
  marked-named line SectionLine = section-named st n _ (section_no line) st.place
  marked-named line Plain = plain-named line st.place

  step-named : (line : List ℕ) → Named (get_or (fields_of line) 1 []) (step_of st n line)
  unfolding step_of
  step-named line = either st n _ (breaks_line line) _ _ (refused st n _ _) (marked-named line (mark_of line))

-- ---- Words, definitions and rows side by side
pub data Names : List Word → List Definition → List Placed → Type 0 where
  names-none : Names [] [] []
  names_key : (n : ℕ) (key value : List ℕ) {ws : List Word} {ds : List Definition} {rs : List Placed} → Names ws ds rs
      → Names (record { line = n; sort = Key; word = key } ∷ ws) (record { line = n; key = key; value = value } ∷ ds) rs
  names-name : (n : ℕ) (name : List ℕ) (r : Placed) {ws : List Word} {ds : List Definition} {rs : List Placed} → Coded name r.cells → Names ws ds rs
      → Names (record { line = n; sort = Name; word = name } ∷ ws) ds (r ∷ rs)
  names-other : (r : Placed) {ws : List Word} {ds : List Definition} {rs : List Placed} → NoCode r.cells → Names ws ds rs → Names ws ds (r ∷ rs)

-- a line in front of others
module _ (n : ℕ) (l : List ℕ) (r : Stepped) (named : Named (get_or (fields_of l) 1 []) r) {ws : List Word} {ds : List Definition} {rs : List Placed} (x : Names ws ds rs) where
  names-row : (get_or r.cells 0 (pos 0) ≡ pos extension_kind → Coded (get_or (fields_of l) 1 []) r.cells)
      → Names (words_in n l (row_names (get_or r.cells 0 (pos 0))) ++ ws) ds (record { line = r.line; cells = r.cells } ∷ rs)
  unfolding words_in word_of row_names NoCode
  names-row c = go (same_z (get_or r.cells 0 (pos 0)) (pos extension_kind)) refl
    where
      go : (b : Bool) → same_z (get_or r.cells 0 (pos 0)) (pos extension_kind) ≡ b
          → Names (words_in n l (cond b (Some Name) None) ++ ws) ds (record { line = r.line; cells = r.cells } ∷ rs)
      go true e = names-name n (get_or (fields_of l) 1 []) _ (c (same_z-true (get_or r.cells 0 (pos 0)) (pos extension_kind) e)) x
      go false e = names-other _ e x

  names-line : Names (cond (is_fault r.found) [] (word_at n l r ++ ws)) (cond (is_fault r.found) [] (definition_at n l r ++ ds)) (cond (is_fault r.found) [] (row_at n l r ++ rs))
  unfolding word_at once_of words_in found_names word_of definition_at row_at is_fault is_row is_defined
  names-line = go r.found named.coded
    where
      go : (f : Found) → (f ≡ FoundRow → get_or r.cells 0 (pos 0) ≡ pos extension_kind → Coded (get_or (fields_of l) 1 []) r.cells)
          → Names (cond (is_fault f) [] (words_in n l (found_names f (get_or r.cells 0 (pos 0))) ++ ws))
          (cond (is_fault f) [] (cond (is_defined f) (record { line = n; key = key_of l; value = value_of l } ∷ []) [] ++ ds))
          (cond (is_fault f) [] (cond (is_row f) (record { line = r.line; cells = r.cells } ∷ []) [] ++ rs))
      go Nothing c = x
      go FoundRow c = names-row (c refl)
      go FoundDefinition c = names_key n (key_of l) (value_of l) x
      go (FoundFault f) c = names-none

names-from : (st : State) (n : ℕ) (ls : List (List ℕ)) → Names (words_from st n ls) (definitions_from st n ls) (rows_from st n ls)
unfolding gathered
names-from st n [] = names-none
names-from st n (l ∷ ls) = names-line n l (step_of st n l) (step-named st n l) (names-from (step_of st n l).next (suc n) ls)

pub names_of : (file : List ℕ) → Names (words_of file) (definitions_of file) (rows_of file)
unfolding words_of definitions_of rows_of
names_of file = names-from fresh 1 (lines_of file)
