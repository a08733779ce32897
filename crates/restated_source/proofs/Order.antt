-- The rows of EXTENSIONS stand in a file in the order in which they can be read: entries, then the rows of each extension behind its line. Assumes nothing.
use Rattle.std.proofs.Common.{Option, None, Some}
use Prim.Native.Nat.{ℕ, suc, min, ◌≤◌, ◌<◌}
use mathlib.Core.Bool.{Bool, true, false, cond, not, true≢false}
use mathlib.Core.List.{List, [], ◌∷◌, ◌++◌}
use mathlib.Core.Logic.{⊎_elim}
use mathlib.Core.Path.{◌≡◌, refl, sym, subst, ◌∙◌}
use native.Mathlib.Omega.{arith}
use borrow.Author.Tests.{ne_eqb, not-true}
use lib.Dec.{eqb}
use lib.IntN.{ℤ, pos, nat_abs}
use lib.ListN.{length, get_or, set, length-set}
use lib.Seq.{get_or-set_same, get_or-set_other}
use Rattle.text.specs.Lines.{lines_of}
use Rattle.text.specs.Marks.{mark_of, breaks_line}
use Rattle.text.specs.declared.Mark.{Mark}
use Rattle.text.specs.declared.Mark.TheVariants.{Blank, Comment, Section as SectionLine, Plain}
use Rattle.text.proofs.Cases.{and_both, eq-or-ne}
use Rattle.fields.specs.Fields.{fields_of}
use Rattle.signed.specs.Signed.{same_z, largest}
use Rattle.numeral.specs.Integer.{largest_id}
use Rattle.print.specs.Printed.{signed_text}
use Rattle.shape.specs.Stored.{item_of}
use Rattle.shape.specs.declared.Edition.TheVariants.{V14}
use Rattle.shape.specs.declared.Item.{Item}
use Rattle.shape.specs.declared.Item.TheVariants.{Value as ItemValue, Skipped, Bad as ItemBad}
use Rattle.columns.specs.Columns.{columns_of, form_number, extension_kind, label_kind, shape_kind, most_of}
use Rattle.columns.specs.Rows.{padded}
use Rattle.columns.specs.Ranges.{InRange}
use Rattle.columns.specs.declared.Form.{Form}
use Rattle.columns.specs.declared.Form.TheVariants.{Block, Rf, Gradient, Trap, Adc, Delay, Entry, Trigger}
use Rattle.columns.specs.declared.Kind.TheVariants.{Count}
use Rattle.columns.proofs.Widths.{row_fits}
use Rattle.rows.specs.Cells.{row_from, row_is}
use Rattle.rows.proofs.Ranges.{row-in-range}
use Rattle.heads.specs.Heads.{label_value, label_of, extension_of, word_number_of}
use Rattle.heads.specs.declared.Label.{Label as LabelLine}
use Rattle.heads.specs.declared.Extension.{Extension as ExtensionLine}
use Rattle.heads.proofs.Ranges.{label-range, extension-range}
use Rattle.sections.specs.Sections.{section_no, has_section, place_in}
use Rattle.sections.specs.Entering.{may_enter, entered, enter_of, early_section, section_at, section_step}
use Rattle.sections.specs.Version.{major_word, minor_word, revision_word, version_row, edition_of, minor_row, version_step}
use Rattle.places.specs.Places.{fresh, went_of, refused_of, moved_of}
use Rattle.places.specs.declared.Due.{Due}
use Rattle.places.specs.declared.Due.TheVariants.{Major, Minor, Revision}
use Rattle.places.specs.declared.Fault.{Fault}
use Rattle.places.specs.declared.Fault.TheVariants.{Line as LineFault, Version as VersionFault, Section as SectionFault, Field as FieldFault}
use Rattle.places.specs.declared.Found.{Found}
use Rattle.places.specs.declared.Found.TheVariants.{Nothing, Row as FoundRow, Definition, Fault as FoundFault}
use Rattle.places.specs.declared.Lines.{Lines}
use Rattle.places.specs.declared.Lines.TheVariants.{None as NoLines, Definitions, Rows, Shapes}
use Rattle.places.specs.declared.Listed.{Listed}
use Rattle.places.specs.declared.Listed.TheVariants.{Entries, Triggers, Labels, Unknown}
use Rattle.places.specs.declared.Place.{Place}
use Rattle.places.specs.declared.Place.TheVariants.{Start, Version, Section, Extensions, Head, Values, Signature}
use Rattle.places.specs.declared.State.{State}
use Rattle.places.specs.declared.Stepped.{Stepped}
use Rattle.grammar.specs.Definitions.{is_definition}
use Rattle.grammar.specs.Steps.{defined_of, gave_of, blank_step, definition_step, given_row, row_step, label_row, label_step, listed_of, extension_row, extension_step, is_extension, listed_step, extensions_step, shape_id_word, num_samples_word, head_row, head_step, counted_of, count_row, count_step, value_row, lines_step, plain_step, marked_step, step_of}
use Rattle.file.specs.Whole.{is_fault, is_row, gathered}
use Rattle.file.specs.Rows.{Placed, row_at, rows_from, rows_of}
use Rattle.file_laws.proofs.Padded.{kind-first}
use Rattle.restated_laws.proofs.SectionBack.{is_headed}
use Rattle.restated_source.proofs.Labels.{label-again}

-- ---- A row read where `listed` is, and where reading is behind it; what an edition may read, 1.4 may
pub data ReadAt : Listed → List ℤ → Listed → Type 0 where
  other_row : {listed : Listed} {cells : List ℤ} → ((kind : ℕ) → 7 ≤ kind → kind ≤ 10 → same_z (get_or cells 0 (pos 0)) (pos kind) ≡ false) → ReadAt listed cells listed
  entry_row : (vs : List ℤ) → InRange (columns_of V14 Entry) vs → ReadAt Entries (padded (form_number Entry) vs) Entries
  extension-row : {listed : Listed} (type code : ℕ) → 1 ≤ type → type ≤ largest_id → code ≤ 3 → ReadAt listed (padded extension_kind (pos type ∷ pos code ∷ [])) (listed_of code)
  trigger-row : (vs : List ℤ) → InRange (columns_of V14 Trigger) vs → ReadAt Triggers (padded (form_number Trigger) vs) Triggers
  label-row : (increment : Bool) (id label : ℕ) (v : ℤ) → 1 ≤ id → id ≤ largest_id → nat_abs v ≤ largest_id → 1 ≤ label → label ≤ 13
      → label_value V14 increment label (signed_text v) ≡ Some v
      → ReadAt (Labels increment) (padded label_kind (pos id ∷ pos (cond increment 1 0) ∷ v ∷ pos label ∷ [])) (Labels increment)

-- rows one after another
pub data InOrder : Listed → List Placed → Type 0 where
  no_rows : {listed : Listed} → InOrder listed []
  one_more : {listed behind : Listed} {r : Placed} {rs : List Placed} → ReadAt listed r.cells behind → InOrder behind rs → InOrder listed (r ∷ rs)

-- a row of a kind that does not stand in EXTENSIONS
other-kind : (listed : Listed) (kind : ℕ) (vs : List ℤ) → length vs ≤ 11 → ((k : ℕ) → 7 ≤ k → k ≤ 10 → kind ≡ k → ⊥) → ReadAt listed (padded kind vs) listed
unfolding same_z
other-kind listed kind vs h other = other_row {cells = padded kind vs} (λ k l m. rw (kind-first kind vs h) (ne_eqb kind k (other k l m)))

headed-first : (form : Form) → is_headed form ≡ true → form_number form ≤ 6
headed-first Block h = omega arith
headed-first Rf h = omega arith
headed-first Gradient h = omega arith
headed-first Trap h = omega arith
headed-first Adc h = omega arith
headed-first Delay h = omega arith
headed-first Entry h = absurd (true≢false (sym h))
headed-first Trigger h = absurd (true≢false (sym h))

-- ---- Where a file stands: in EXTENSIONS where `listed` is; before it, where it will begin; behind it, anywhere
abbrev OutsideLines : Lines → Type 0
OutsideLines NoLines = Unit
OutsideLines Definitions = Unit
OutsideLines (Rows form) = is_headed form ≡ true
OutsideLines Shapes = Unit

abbrev PlaceFits : Place → Bool → Listed → Type 0
PlaceFits Start met listed = Unit
PlaceFits (Version due) met listed = Unit
PlaceFits (Section lines) met listed = OutsideLines lines
PlaceFits (Extensions l) met listed = (listed ≡ l) × (met ≡ true)
PlaceFits (Head id n) met listed = Unit
PlaceFits Values met listed = Unit
PlaceFits Signature met listed = Unit

abbrev met : State → Bool
met st = get_or st.seen 8 false

record Stands (st : State) (listed : Listed) : Type 0 where
  wide : 8 < length st.seen
  place : PlaceFits st.place (met st) listed
  before : met st ≡ false → listed ≡ Entries

-- what a line gives is in order
record Ordered (listed : Listed) (r : Stepped) : Type 0 where
  behind : Listed
  stands : Stands r.next behind
  row : is_row r.found ≡ true → ReadAt listed r.cells behind
  quiet : is_row r.found ≡ false → behind ≡ listed

module _ (listed : Listed) where
  no_row : (r : Stepped) → is_row r.found ≡ false → Stands r.next listed → Ordered listed r
  no_row r f t = record { behind = listed; stands = t; row = λ e. absurd (true≢false (sym e ∙ f)); quiet = λ e. refl }

  goes : (next : State) → Stands next listed → Ordered listed (went_of next)
  unfolding is_row
  goes next t = no_row (went_of next) refl t

  gives : (next : State) (behind : Listed) → Stands next behind → (n : ℕ) (cells : List ℤ) → ReadAt listed cells behind → Ordered listed (gave_of next n cells)
  unfolding is_row
  gives next behind t n cells x = record { behind = behind; stands = t; row = λ e. x; quiet = λ e. absurd (true≢false e) }

  module _ (st : State) (s : Stands st listed) where
    stays : Ordered listed (went_of st)
    stays = goes st s

    refuses : (fault : Fault) → Ordered listed (refused_of st fault)
    unfolding is_row
    refuses fault = no_row (refused_of st fault) refl s

    defines : Ordered listed (defined_of st)
    unfolding is_row
    defines = no_row (defined_of st) refl s

    moves : (p : Place) → PlaceFits p (met st) listed → Ordered listed (went_of (moved_of st p))
    moves p x = goes (moved_of st p) (record { wide = s.wide; place = x; before = s.before })

    -- ---- a section begins
    pick : (P : Place → Type 0) (b : Bool) (x y : Place) → P x → P y → P (cond b x y)
    pick P true x y p q = p
    pick P false x y p q = q

    place-outside : (k : ℕ) → (k ≡ 8 → ⊥) → (b : Bool) → PlaceFits (place_in k) b listed
    unfolding place_in
    place-outside k other b =
        let P : Place → Type 0 = λ p. PlaceFits p b listed in
        rw (ne_eqb k 8 other)
        (pick P (eqb k 2) _ _ tt
        (pick P (eqb k 3) _ _ refl
        (pick P (eqb k 4) _ _ refl
        (pick P (eqb k 5) _ _ refl (pick P (eqb k 6) _ _ refl (pick P (eqb k 7) _ _ refl (pick P (eqb k 9) _ _ tt (pick P (eqb k 10) _ _ refl tt))))))))

    enters-other : (k : ℕ) → (k ≡ 8 → ⊥) → (p : Place) → ((b : Bool) → PlaceFits p b listed) → Stands (entered st k p) listed
    enters-other k other p x =
        let same : get_or (set st.seen k true) 8 false ≡ met st = get_or-set_other st.seen k 8 true false (λ (e : 8 ≡ k). other (sym e)) in
        record { wide = rw (length-set st.seen k true) s.wide; place = x _; before = λ e. s.before (sym same ∙ e) }

    enters-extensions : met st ≡ false → Stands (entered st 8 (Extensions Entries)) listed
    enters-extensions f =
        let now : get_or (set st.seen 8 true) 8 false ≡ true = get_or-set_same st.seen 8 true false s.wide in
        record { wide = rw (length-set st.seen 8 true) s.wide; place = (s.before f, now); before = λ e. absurd (true≢false (sym now ∙ e)) }

    enters : (k : ℕ) → Ordered listed (enter_of st k)
    unfolding enter_of
    enters k = go (may_enter st k) refl
      where
        unmet : may_enter st k ≡ true → get_or st.seen k false ≡ false
        unmet e = unfold may_enter in not-true _ (and_both (has_section st.edition k) (not (get_or st.seen k false)) e).1

        here : may_enter st k ≡ true → k ≡ 8 → Stands (entered st k (place_in k)) listed
        here e q = rw q (unfold place_in in enters-extensions (rw q at (unmet e)))

        go : (b : Bool) → may_enter st k ≡ b → Ordered listed (cond b (went_of (entered st k (place_in k))) (refused_of st SectionFault))
        go true e = goes (entered st k (place_in k)) (⊎_elim (here e) (λ n. enters-other k n (place_in k) (place-outside k n)) (eq-or-ne k 8))
        go false e = refuses SectionFault

    early : (k : ℕ) → Ordered listed (early_section st k)
    unfolding early_section
    early k = go (may_enter st k)
      where
        go : (b : Bool) → Ordered listed (cond b (refused_of st FieldFault) (refused_of st SectionFault))
        go true = refuses FieldFault
        go false = refuses SectionFault

    at-section : (k : ℕ) (place : Place) → Ordered listed (section_at st k place)
    unfolding section_at
    at-section k Start = go (eqb k 1)
      where
        go : (b : Bool) → Ordered listed (cond b (went_of (entered st 1 (Version Major))) (refused_of st VersionFault))
        go true = goes (entered st 1 (Version Major)) (enters-other 1 (λ e. omega arith) (Version Major) (λ b. tt))
        go false = refuses VersionFault
    at-section k (Version due) = refuses VersionFault
    at-section k (Section lines) = enters k
    at-section k (Extensions l) = enters k
    at-section k (Head id n) = early k
    at-section k Values = enters k
    at-section k Signature = refuses SectionFault

    at-blank : (place : Place) → Ordered listed (blank_step st place)
    unfolding blank_step
    at-blank Start = stays
    at-blank (Version due) = stays
    at-blank (Section lines) = stays
    at-blank (Extensions l) = stays
    at-blank (Head id n) = refuses FieldFault
    at-blank Values = moves (Section Shapes) tt
    at-blank Signature = stays

    -- ---- VERSION
    version-row : (p : Place) → PlaceFits p (met st) listed → (v : (Option ℕ)) → Ordered listed (version_row st (moved_of st p) v)
    unfolding version_row
    version-row p x (Some v) = moves p x
    version-row p x None = refuses VersionFault

    minor-row : (v : (Option ℕ)) → Ordered listed (minor_row st v)
    unfolding minor_row
    minor-row (Some v) =
        goes (record { place = Version Revision; edition = edition_of v; seen = st.seen; samples = st.samples }) (record { wide = s.wide; place = tt; before = s.before })
    minor-row None = refuses VersionFault

    at-version : (fields : List (List ℕ)) (due : Due) → Ordered listed (version_step st fields due)
    unfolding version_step
    at-version fields Major = version-row (Version Minor) tt (word_number_of major_word 1 1 fields)
    at-version fields Minor = minor-row (word_number_of minor_word 3 4 fields)
    at-version fields Revision = version-row (Section NoLines) tt (word_number_of revision_word 0 1 fields)

    -- ---- rows by their columns
    by_form : (n : ℕ) (form : Form) (fields : List (List ℕ)) → ((vs : List ℤ) → InRange (columns_of st.edition form) vs → ReadAt listed (padded (form_number form) vs) listed)
        → Ordered listed (row_step st n form fields)
    unfolding row_step given_row row_is
    by_form n form fields read = go (row_from (columns_of st.edition form) fields) refl
      where
        go : (o : Option (List ℤ)) → row_from (columns_of st.edition form) fields ≡ o → Ordered listed (given_row st n (row_is form o))
        go None e = refuses FieldFault
        go (Some vs) e = gives st listed s n (padded (form_number form) vs) (read vs (row-in-range (columns_of st.edition form) fields vs e))

    -- ---- sections behind VERSION
    at-definition : (line : List ℕ) → Ordered listed (definition_step st line)
    unfolding definition_step
    at-definition line = go (is_definition line)
      where
        go : (b : Bool) → Ordered listed (cond b (defined_of st) (refused_of st FieldFault))
        go true = defines
        go false = refuses FieldFault

    at_head : (n : ℕ) (v : (Option ℕ)) → Ordered listed (head_row st n v)
    unfolding head_row
    at_head n (Some id) = moves (Head (pos id) n) tt
    at_head n None = refuses FieldFault

    at_count : (z : ℤ) (n : ℕ) (v : (Option ℕ)) → Ordered listed (count_row st z n v)
    unfolding count_row counted_of
    at_count z n (Some num) =
        gives (counted_of st num) listed (record { wide = s.wide; place = tt; before = s.before }) n _
        (other-kind listed shape_kind (z ∷ pos num ∷ pos (min st.samples largest) ∷ []) (omega arith) (λ k (l : 7 ≤ k) (m : k ≤ 10) (e : 11 ≡ k). omega arith))
    at_count z n None = refuses FieldFault

    at_value : (i : Item) → Ordered listed (value_row st i)
    unfolding value_row
    at_value (ItemValue d) = stays
    at_value Skipped = stays
    at_value ItemBad = refuses FieldFault

    at-lines : (n : ℕ) (line : List ℕ) (lines : Lines) → OutsideLines lines → Ordered listed (lines_step st n line lines)
    unfolding lines_step head_step
    at-lines n line NoLines x = refuses VersionFault
    at-lines n line Definitions x = at-definition line
    at-lines n line (Rows form) x =
        let first = headed-first form x in
        by_form n form (fields_of line) (λ vs r. other-kind listed (form_number form) vs (row_fits st.edition form r) (λ k (l : 7 ≤ k) (m : k ≤ 10) (e : form_number form ≡ k). omega arith))
    at-lines n line Shapes x = at_head n (word_number_of shape_id_word 1 largest_id (fields_of line))

-- ---- EXTENSIONS
module _ (st : State) (listed : Listed) (s : Stands st listed) (now : met st ≡ true) where
  moves-to : (code : ℕ) → Stands (moved_of st (Extensions (listed_of code))) (listed_of code)
  moves-to code = record { wide = s.wide; place = (refl, now); before = λ e. absurd (true≢false (sym now ∙ e)) }

  at-extension : (n : ℕ) (fields : List (List ℕ)) → Ordered listed (extension_step st n fields)
  unfolding extension_step extension_row
  at-extension n fields = go (extension_of fields) refl
    where
      go : (l : Option ExtensionLine) → extension_of fields ≡ l → Ordered listed (extension_row st n l)
      go (Some line) e =
          let r = extension-range fields line.number line.code e in
          gives listed (moved_of st (Extensions (listed_of line.code))) (listed_of line.code) (moves-to line.code) n _ (extension-row line.number line.code r.0 r.1 r.2)
      go None e = refuses listed st s FieldFault

at_label : (st : State) (increment : Bool) → Stands st (Labels increment) → (n : ℕ) (fields : List (List ℕ)) → Ordered (Labels increment) (label_step st n increment fields)
unfolding label_step label_row
at_label st increment s n fields = go (label_of st.edition increment fields) refl
  where
    go : (l : Option LabelLine) → label_of st.edition increment fields ≡ l → Ordered (Labels increment) (label_row st n increment l)
    go (Some line) e =
        let r = label-range st.edition increment fields line.id line.value line.label e in
        gives (Labels increment) st (Labels increment) s n _
        (label-row increment line.id line.label line.value r.0 r.1 r.2 r.3 r.4 (label-again st.edition increment fields line.id line.value line.label r.2 e))
    go None e = refuses (Labels increment) st s FieldFault

at_listed : (st : State) (listed : Listed) → Stands st listed → (n : ℕ) (fields : List (List ℕ)) → Ordered listed (listed_step st n fields listed)
unfolding listed_step columns_of
at_listed st Entries s n fields = by_form Entries st s n Entry fields (λ vs r. entry_row vs r)
at_listed st Triggers s n fields = by_form Triggers st s n Trigger fields (λ vs r. trigger-row vs r)
at_listed st (Labels increment) s n fields = at_label st increment s n fields
at_listed st Unknown s n fields = stays Unknown st s

at-extensions : (st : State) (listed : Listed) → Stands st listed → met st ≡ true → (n : ℕ) (fields : List (List ℕ)) → Ordered listed (extensions_step st n fields listed)
unfolding extensions_step
at-extensions st listed s now n fields = go (is_extension fields)
  where
    go : (b : Bool) → Ordered listed (cond b (extension_step st n fields) (listed_step st n fields listed))
    go true = at-extension st listed s now n fields
    go false = at_listed st listed s n fields

-- ---- Every line
module _ (listed : Listed) (st : State) (s : Stands st listed) where
  fits : (p : Place) → st.place ≡ p → PlaceFits p (met st) listed
  fits p q = rw q at s.place

  at_plain : (n : ℕ) (line : List ℕ) (p : Place) → st.place ≡ p → Ordered listed (plain_step st n line p)
  unfolding plain_step count_step
  at_plain n line Start q = refuses listed st s VersionFault
  at_plain n line (Version due) q = at-version listed st s (fields_of line) due
  at_plain n line (Section lines) q = at-lines listed st s n line lines (fits (Section lines) q)
  at_plain n line (Extensions l) q =
      let x = fits (Extensions l) q in
      subst (λ (y : Listed). Ordered listed (extensions_step st n (fields_of line) y)) x.0 (at-extensions st listed s x.1 n (fields_of line))
  at_plain n line (Head z m) q = at_count listed st s z m (word_number_of num_samples_word 1 (most_of Count) (fields_of line))
  at_plain n line Values q = at_value listed st s (item_of line)
  at_plain n line Signature q = stays listed st s

  at-marked : (n : ℕ) (line : List ℕ) (mark : Mark) → Ordered listed (marked_step st n line mark)
  unfolding marked_step section_step
  at-marked n line Comment = stays listed st s
  at-marked n line Blank = at-blank listed st s st.place
  at-marked n line SectionLine = at-section listed st s (section_no line) st.place
  at-marked n line Plain = at_plain n line st.place refl

  at-line : (n : ℕ) (line : List ℕ) → Ordered listed (step_of st n line)
  unfolding step_of
  at-line n line = go (breaks_line line)
    where
      go : (b : Bool) → Ordered listed (cond b (refused_of st LineFault) (marked_step st n line (mark_of line)))
      go true = refuses listed st s LineFault
      go false = at-marked n line (mark_of line)

-- ---- A whole file, also one that is at fault further on
ordered-from : (listed : Listed) (st : State) (n : ℕ) (ls : List (List ℕ)) → Stands st listed → InOrder listed (rows_from st n ls)
unfolding gathered row_at is_fault is_row
ordered-from listed st n [] s = no_rows
ordered-from listed st n (l ∷ ls) s =
    let x = at-line listed st s n l in
    go (step_of st n l).found x.row x.quiet (ordered-from x.behind (step_of st n l).next (suc n) ls x.stands)
  where
    go : (f : Found) {behind : Listed} → (is_row f ≡ true → ReadAt listed (step_of st n l).cells behind) → (is_row f ≡ false → behind ≡ listed) → {rs : List Placed} → InOrder behind rs
        → InOrder listed (cond (is_fault f) [] (cond (is_row f) (record { line = (step_of st n l).line; cells = (step_of st n l).cells } ∷ []) [] ++ rs))
    go Nothing row quiet {rs} t = subst (λ (y : Listed). InOrder y rs) (quiet refl) t
    go FoundRow row quiet t = one_more (row refl) t
    go Definition row quiet {rs} t = subst (λ (y : Listed). InOrder y rs) (quiet refl) t
    go (FoundFault f) row quiet t = no_rows

pub rows-ordered : (file : List ℕ) → InOrder Entries (rows_of file)
unfolding rows_of
rows-ordered file = ordered-from Entries fresh 1 (lines_of file) (record { wide = omega arith; place = tt; before = λ e. refl })
