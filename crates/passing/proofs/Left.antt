-- Definitions, `extension` lines and shapes stand in their own sections alone: where a file stands elsewhere, no line belongs to one, and once such a
-- section is left, no further line does. Assumes nothing.
use Rattle.std.proofs.Common.{Option, None, Some}
use Prim.Native.Nat.{ℕ, min, ◌≤◌}
use mathlib.Core.Bool.{Bool, true, false, cond, not, true≢false}
use mathlib.Core.List.{List, [], ◌∷◌}
use mathlib.Core.Path.{◌≡◌, refl, sym, ◌∙◌}
use native.Mathlib.Omega.{arith}
use borrow.Author.Tests.{eqb-true, eqb-false, eq-eqb, ne_eqb, not-true}
use lib.Dec.{eqb}
use lib.IntN.{ℤ, pos}
use lib.ListN.{get_or}
use lib.Seq.{get_or-set_other}
use Rattle.text.specs.Marks.{mark_of, breaks_line}
use Rattle.text.specs.declared.Mark.{Mark}
use Rattle.text.specs.declared.Mark.TheVariants.{Blank, Comment, Section as SectionLine, Plain}
use Rattle.text.proofs.Cases.{and_both}
use Rattle.fields.specs.Fields.{fields_of}
use Rattle.signed.specs.Signed.{same_z, largest}
use Rattle.numeral.specs.Integer.{largest_id}
use Rattle.shape.specs.Stored.{item_of}
use Rattle.shape.specs.declared.Item.{Item}
use Rattle.shape.specs.declared.Item.TheVariants.{Value as ItemValue, Skipped, Bad as ItemBad}
use Rattle.columns.specs.Columns.{columns_of, form_number, most_of}
use Rattle.columns.specs.Rows.{padded}
use Rattle.columns.specs.declared.Form.{Form}
use Rattle.columns.specs.declared.Form.TheVariants.{Block, Rf, Gradient, Trap, Adc, Delay, Entry, Trigger}
use Rattle.columns.specs.declared.Kind.TheVariants.{Count}
use Rattle.rows.specs.Cells.{row_from, row_is}
use Rattle.heads.specs.Heads.{label_of, extension_of, word_number_of}
use Rattle.heads.specs.declared.Label.{Label as LabelLine}
use Rattle.heads.specs.declared.Extension.{Extension as ExtensionLine}
use Rattle.sections.specs.Sections.{section_no, has_section, place_in}
use Rattle.sections.specs.Entering.{may_enter, entered, enter_of, early_section, section_at, section_step}
use Rattle.sections.specs.Version.{major_word, minor_word, revision_word, version_row, edition_of, minor_row, version_step}
use Rattle.places.specs.Places.{section_in, went_of, refused_of, moved_of}
use Rattle.places.specs.declared.Due.{Due}
use Rattle.places.specs.declared.Due.TheVariants.{Major, Minor, Revision}
use Rattle.places.specs.declared.Fault.{Fault}
use Rattle.places.specs.declared.Fault.TheVariants.{Line as LineFault, Version as VersionFault, Section as SectionFault, Field as FieldFault}
use Rattle.places.specs.declared.Found.TheVariants.{Row}
use Rattle.places.specs.declared.Lines.{Lines}
use Rattle.places.specs.declared.Lines.TheVariants.{None as NoLines, Definitions, Rows, Shapes}
use Rattle.places.specs.declared.Listed.{Listed}
use Rattle.places.specs.declared.Listed.TheVariants.{Entries, Triggers, Labels, Unknown}
use Rattle.places.specs.declared.Place.{Place}
use Rattle.places.specs.declared.Place.TheVariants.{Start, Version, Section, Extensions, Head, Values, Signature}
use Rattle.places.specs.declared.State.{State}
use Rattle.places.specs.declared.Stepped.{Stepped}
use Rattle.grammar.specs.Definitions.{is_definition}
use Rattle.grammar.specs.Steps.{defined_of, gave_of, blank_step, definition_step, given_row, row_step, label_row, label_step, listed_of, extension_row, extension_step, is_extension, listed_step, extensions_step, shape_id_word, num_samples_word, head_row, head_step, counted_of, count_row, count_step, value_row, lines_step, plain_step, marked_step, step_of}
use Rattle.passing.specs.Left.{found_section, given_section, left_of}
use Rattle.passing.proofs.Over.{kind-of}

-- ---- What rows belong to, by their kind
other-kind : (kind : ℕ) (vs : List ℤ) → (kind ≡ 8 → ⊥) → (kind ≡ 11 → ⊥) → found_section Row (get_or (padded kind vs) 0 (pos 0)) ≡ 0
unfolding found_section same_z
other-kind kind vs n m = rw (kind-of kind vs, ne_eqb kind 8 n, ne_eqb kind 11 m)

shape-kind : (vs : List ℤ) → found_section Row (get_or (padded 11 vs) 0 (pos 0)) ≡ 9
unfolding found_section same_z
shape-kind vs = rw (kind-of 11 vs)

form-kind : (form : Form) → (form_number form ≡ 8 → ⊥) × (form_number form ≡ 11 → ⊥)
form-kind Block = (λ e. omega arith, λ e. omega arith)
form-kind Rf = (λ e. omega arith, λ e. omega arith)
form-kind Gradient = (λ e. omega arith, λ e. omega arith)
form-kind Trap = (λ e. omega arith, λ e. omega arith)
form-kind Adc = (λ e. omega arith, λ e. omega arith)
form-kind Delay = (λ e. omega arith, λ e. omega arith)
form-kind Entry = (λ e. omega arith, λ e. omega arith)
form-kind Trigger = (λ e. omega arith, λ e. omega arith)

-- ---- Section k, behind VERSION, was met and left
pub record Left (k : ℕ) (st : State) : Type 0 where
  pub met : get_or st.seen k false ≡ true
  pub away : section_in st.place ≡ k → ⊥

-- ---- Where a file stands elsewhere, no line belongs to it; and it stays left if it was met
pub record Silent (k : ℕ) (st : State) (r : Stepped) : Type 0 where
  pub left : get_or st.seen k false ≡ true → Left k r.next
  pub other : given_section r ≡ k → ⊥

module _ (k : ℕ) (behind : 2 ≤ k) (st : State) (apart : section_in st.place ≡ k → ⊥) where
  abbrev Kept : State → Type 0
  Kept next = get_or st.seen k false ≡ true → Left k next

  same : Kept st
  same m = record { met = m; away = apart }

  nowhere : 0 ≡ k → ⊥
  nowhere e = omega arith

  goes : (next : State) → Kept next → Silent k st (went_of next)
  unfolding given_section found_section
  goes next t = record { left = t; other = nowhere }

  stays : Silent k st (went_of st)
  stays = goes st same

  refuses : (fault : Fault) → Silent k st (refused_of st fault)
  unfolding given_section found_section
  refuses fault = record { left = same; other = nowhere }

  to : (p : Place) → (section_in p ≡ k → ⊥) → Kept (moved_of st p)
  to p a m = record { met = m; away = a }

  moves : (p : Place) → (section_in p ≡ k → ⊥) → Silent k st (went_of (moved_of st p))
  moves p a = goes (moved_of st p) (to p a)

  -- ---- rows of other kinds than `extension` lines and shapes
  gives : (n kind : ℕ) (vs : List ℤ) → (kind ≡ 8 → ⊥) → (kind ≡ 11 → ⊥) → Silent k st (gave_of st n (padded kind vs))
  unfolding given_section
  gives n kind vs o p = record { left = same; other = rw (other-kind kind vs o p) nowhere }

  by_form : (n : ℕ) (form : Form) (fields : List (List ℕ)) → Silent k st (row_step st n form fields)
  unfolding row_step given_row row_is
  by_form n form fields = go (row_from (columns_of st.edition form) fields)
    where
      go : (o : Option (List ℤ)) → Silent k st (given_row st n (row_is form o))
      go None = refuses FieldFault
      go (Some vs) = gives n (form_number form) vs (form-kind form).0 (form-kind form).1

  -- ---- a section that begins is another one
  pick : (P : Place → Type 0) (b : Bool) (x y : Place) → (b ≡ true → P x) → P y → P (cond b x y)
  pick P true x y p q = p refl
  pick P false x y p q = q

  place_other : (j : ℕ) → (j ≡ k → ⊥) → section_in (place_in j) ≡ k → ⊥
  unfolding place_in
  place_other j o =
      let P : Place → Type 0 = λ p. section_in p ≡ k → ⊥ in
      pick P (eqb j 2) _ _ (λ e (q : 2 ≡ k). o (eqb-true j 2 e ∙ q))
      (pick P (eqb j 3) _ _ (λ e. nowhere)
      (pick P (eqb j 4) _ _ (λ e. nowhere)
      (pick P (eqb j 5) _ _ (λ e. nowhere)
      (pick P (eqb j 6) _ _ (λ e. nowhere)
      (pick P (eqb j 7) _ _ (λ e. nowhere)
      (pick P (eqb j 8) _ _ (λ e (q : 8 ≡ k). o (eqb-true j 8 e ∙ q))
      (pick P (eqb j 9) _ _ (λ e (q : 9 ≡ k). o (eqb-true j 9 e ∙ q)) (pick P (eqb j 10) _ _ (λ e. nowhere) nowhere))))))))

  begins : (j : ℕ) (p : Place) → (get_or st.seen k false ≡ true → (j ≡ k → ⊥) × (section_in p ≡ k → ⊥)) → Silent k st (went_of (entered st j p))
  begins j p o = goes (entered st j p) (λ m. record { met = get_or-set_other st.seen j k true false (λ (e : k ≡ j). (o m).0 (sym e)) ∙ m; away = (o m).1 })

  enters : (j : ℕ) → Silent k st (enter_of st j)
  unfolding enter_of
  enters j = go (may_enter st j) refl
    where
      unmet : may_enter st j ≡ true → get_or st.seen j false ≡ false
      unmet e = unfold may_enter in not-true _ (and_both (has_section st.edition j) (not (get_or st.seen j false)) e).1

      other : may_enter st j ≡ true → get_or st.seen k false ≡ true → j ≡ k → ⊥
      other e m q = true≢false (sym m ∙ rw q at (unmet e))

      go : (b : Bool) → may_enter st j ≡ b → Silent k st (cond b (went_of (entered st j (place_in j))) (refused_of st SectionFault))
      go true e = begins j (place_in j) (λ m. (other e m, place_other j (other e m)))
      go false e = refuses SectionFault

  early : (j : ℕ) → Silent k st (early_section st j)
  unfolding early_section
  early j = go (may_enter st j)
    where
      go : (b : Bool) → Silent k st (cond b (refused_of st FieldFault) (refused_of st SectionFault))
      go true = refuses FieldFault
      go false = refuses SectionFault

  at-section : (j : ℕ) (place : Place) → Silent k st (section_at st j place)
  unfolding section_at
  at-section j Start = go (eqb j 1)
    where
      go : (b : Bool) → Silent k st (cond b (went_of (entered st 1 (Version Major))) (refused_of st VersionFault))
      go true = begins 1 (Version Major) (λ m. (λ (e : 1 ≡ k). omega arith, nowhere))
      go false = refuses VersionFault
  at-section j (Version due) = refuses VersionFault
  at-section j (Section lines) = enters j
  at-section j (Extensions l) = enters j
  at-section j (Head id n) = early j
  at-section j Values = enters j
  at-section j Signature = refuses SectionFault

  at-blank : (place : Place) → (section_in place ≡ k → ⊥) → Silent k st (blank_step st place)
  unfolding blank_step
  at-blank Start a = stays
  at-blank (Version due) a = stays
  at-blank (Section lines) a = stays
  at-blank (Extensions l) a = stays
  at-blank (Head id n) a = refuses FieldFault
  at-blank Values a = moves (Section Shapes) a
  at-blank Signature a = stays

  -- ---- VERSION
  version-row : (p : Place) → (section_in p ≡ k → ⊥) → (v : (Option ℕ)) → Silent k st (version_row st (moved_of st p) v)
  unfolding version_row
  version-row p a (Some v) = moves p a
  version-row p a None = refuses VersionFault

  minor-row : (v : (Option ℕ)) → Silent k st (minor_row st v)
  unfolding minor_row
  minor-row (Some v) =
      goes (record { place = Version Revision; edition = edition_of v; seen = st.seen; samples = st.samples }) (λ m. record { met = m; away = nowhere })
  minor-row None = refuses VersionFault

  at-version : (fields : List (List ℕ)) (due : Due) → Silent k st (version_step st fields due)
  unfolding version_step
  at-version fields Major = version-row (Version Minor) nowhere (word_number_of major_word 1 1 fields)
  at-version fields Minor = minor-row (word_number_of minor_word 3 4 fields)
  at-version fields Revision = version-row (Section NoLines) nowhere (word_number_of revision_word 0 1 fields)

  -- ---- sections behind VERSION; where the file stands in DEFINITIONS, EXTENSIONS or SHAPES, that is not section k
  at-definition : (2 ≡ k → ⊥) → (line : List ℕ) → Silent k st (definition_step st line)
  unfolding definition_step given_section found_section
  at-definition o line = go (is_definition line)
    where
      go : (b : Bool) → Silent k st (cond b (defined_of st) (refused_of st FieldFault))
      go true = record { left = same; other = o }
      go false = refuses FieldFault

  at_head : (9 ≡ k → ⊥) → (n : ℕ) (v : (Option ℕ)) → Silent k st (head_row st n v)
  unfolding head_row
  at_head o n (Some id) = moves (Head (pos id) n) o
  at_head o n None = refuses FieldFault

  at_count : (9 ≡ k → ⊥) → (z : ℤ) (n : ℕ) (v : (Option ℕ)) → Silent k st (count_row st z n v)
  unfolding count_row counted_of given_section
  at_count o z n (Some num) = record { left = λ m. record { met = m; away = o }; other = rw (shape-kind (z ∷ pos num ∷ pos (min st.samples largest) ∷ [])) o }
  at_count o z n None = refuses FieldFault

  at_value : (i : Item) → Silent k st (value_row st i)
  unfolding value_row
  at_value (ItemValue d) = stays
  at_value Skipped = stays
  at_value ItemBad = refuses FieldFault

  at-lines : (n : ℕ) (line : List ℕ) (lines : Lines) → (section_in (Section lines) ≡ k → ⊥) → Silent k st (lines_step st n line lines)
  unfolding lines_step head_step
  at-lines n line NoLines a = refuses VersionFault
  at-lines n line Definitions a = at-definition a line
  at-lines n line (Rows form) a = by_form n form (fields_of line)
  at-lines n line Shapes a = at_head a n (word_number_of shape_id_word 1 largest_id (fields_of line))

  at_label : (increment : Bool) (n : ℕ) (l : Option LabelLine) → Silent k st (label_row st n increment l)
  unfolding label_row
  at_label increment n (Some line) = gives n 10 (pos line.id ∷ pos (cond increment 1 0) ∷ line.value ∷ pos line.label ∷ []) (λ (e : 10 ≡ 8). omega arith) (λ (e : 10 ≡ 11). omega arith)
  at_label increment n None = refuses FieldFault

  at_listed : (n : ℕ) (fields : List (List ℕ)) (listed : Listed) → Silent k st (listed_step st n fields listed)
  unfolding listed_step label_step
  at_listed n fields Entries = by_form n Entry fields
  at_listed n fields Triggers = by_form n Trigger fields
  at_listed n fields (Labels increment) = at_label increment n (label_of st.edition increment fields)
  at_listed n fields Unknown = stays

  at-extension : (8 ≡ k → ⊥) → (n : ℕ) (l : Option ExtensionLine) → Silent k st (extension_row st n l)
  unfolding extension_row given_section found_section padded same_z
  at-extension o n (Some line) = record { left = to (Extensions (listed_of line.code)) o; other = o }
  at-extension o n None = refuses FieldFault

  at-extensions : (8 ≡ k → ⊥) → (n : ℕ) (fields : List (List ℕ)) (listed : Listed) → Silent k st (extensions_step st n fields listed)
  unfolding extensions_step extension_step
  at-extensions o n fields listed = go (is_extension fields)
    where
      go : (b : Bool) → Silent k st (cond b (extension_step st n fields) (listed_step st n fields listed))
      go true = at-extension o n (extension_of fields)
      go false = at_listed n fields listed

  -- ---- every line
  at_plain : (n : ℕ) (line : List ℕ) (p : Place) → (section_in p ≡ k → ⊥) → Silent k st (plain_step st n line p)
  unfolding plain_step count_step
  at_plain n line Start a = refuses VersionFault
  at_plain n line (Version due) a = at-version (fields_of line) due
  at_plain n line (Section lines) a = at-lines n line lines a
  at_plain n line (Extensions l) a = at-extensions a n (fields_of line) l
  at_plain n line (Head z m) a = at_count a z m (word_number_of num_samples_word 1 (most_of Count) (fields_of line))
  at_plain n line Values a = at_value (item_of line)
  at_plain n line Signature a = stays

  at-marked : (n : ℕ) (line : List ℕ) (mark : Mark) → Silent k st (marked_step st n line mark)
  unfolding marked_step section_step
  at-marked n line Comment = stays
  at-marked n line Blank = at-blank st.place apart
  at-marked n line SectionLine = at-section (section_no line) st.place
  at-marked n line Plain = at_plain n line st.place apart

  pub silent-line : (n : ℕ) (line : List ℕ) → Silent k st (step_of st n line)
  unfolding step_of
  silent-line n line = go (breaks_line line)
    where
      go : (b : Bool) → Silent k st (cond b (refused_of st LineFault) (marked_step st n line (mark_of line)))
      go true = refuses LineFault
      go false = at-marked n line (mark_of line)

-- ---- as it is asked
pub left_is : (st : State) (k : ℕ) → left_of st k ≡ true → Left k st
unfolding left_of
left_is st k = go (eqb (section_in st.place) k) refl
  where
    go : (b : Bool) → eqb (section_in st.place) k ≡ b → cond b false (get_or st.seen k false) ≡ true → Left k st
    go true e h = absurd (true≢false (sym h))
    go false e h = record { met = h; away = eqb-false _ _ e }

module _ (st : State) (k here : ℕ) (q : here ≡ section_in st.place) where
  pub left_not : here ≡ k → false ≡ left_of st k
  unfolding left_of
  left_not e = rw (eq-eqb (section_in st.place) k (sym q ∙ e))

  pub left-if-met : (here ≡ k → ⊥) → get_or st.seen k false ≡ left_of st k
  unfolding left_of
  left-if-met n = rw (ne_eqb (section_in st.place) k (λ e. n (q ∙ e)))
