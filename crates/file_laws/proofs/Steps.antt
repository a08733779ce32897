-- The rows that lines give are in range, and the edition stays what VERSION says. Assumes nothing.
use Rattle.std.proofs.Common.{Option, None, Some}
use Prim.Native.Nat.{ℕ, ◌+◌, ◌≤◌, min}
use mathlib.Core.Bool.{Bool, true, false, cond, true≢false}
use mathlib.Core.List.{List, [], ◌∷◌}
use mathlib.Core.Path.{◌≡◌, refl, sym, ◌∙◌}
use native.Mathlib.Omega.{arith}
use lib.Dec.{eqb}
use lib.IntN.{ℤ, pos, nat_abs}
use lib.ListN.{length, get_or}
use Rattle.fields.specs.Fields.{fields_of}
use Rattle.text.specs.Marks.{mark_of, breaks_line}
use Rattle.text.specs.declared.Mark.{Mark}
use Rattle.text.specs.declared.Mark.TheVariants.{Blank, Comment, Section as SectionLine, Plain}
use Rattle.signed.specs.Signed.{same_z, largest}
use Rattle.numeral.specs.Integer.{largest_id}
use Rattle.shape.specs.Stored.{item_of}
use Rattle.shape.specs.declared.Item.{Item}
use Rattle.shape.specs.declared.Item.TheVariants.{Value as ItemValue, Skipped, Bad as ItemBad}
use Rattle.columns.specs.Columns.{columns_of, form_number}
use Rattle.columns.specs.Rows.{padded}
use Rattle.rows.specs.Cells.{row_from, row_is}
use Rattle.columns.specs.declared.Form.{Form}
use Rattle.columns.specs.declared.Form.TheVariants.{Block, Rf, Gradient, Trap, Adc, Delay, Entry, Trigger}
use Rattle.rows.proofs.Ranges.{row-in-range}
use Rattle.columns.proofs.Widths.{row_fits}
use Rattle.heads.specs.Heads.{label_of, extension_of, word_number_of}
use Rattle.heads.specs.declared.Label.{Label as LabelLine}
use Rattle.heads.specs.declared.Extension.{Extension as ExtensionLine}
use Rattle.heads.proofs.Ranges.{label-range, extension-range, word-range}
use Rattle.sections.specs.Sections.{section_no, place_in}
use Rattle.grammar.specs.Definitions.{is_definition}
use Rattle.places.specs.Places.{went_of, refused_of, moved_of}
use Rattle.grammar.specs.Steps.{defined_of, gave_of, blank_step, definition_step, given_row, row_step, label_row, label_step, listed_of, extension_row, extension_step, is_extension, listed_step, extensions_step, shape_id_word, num_samples_word, head_row, head_step, counted_of, count_row, count_step, value_row, lines_step, plain_step, marked_step, step_of}
use Rattle.sections.specs.Entering.{may_enter, entered, enter_of, early_section, section_at, section_step}
use Rattle.sections.specs.Version.{major_word, minor_word, revision_word, version_row, edition_of, minor_row, version_step}
use Rattle.file_laws.specs.Stacked.{is_shape_of, shape_count}
use Rattle.file_laws.proofs.Padded.{kind-first, own-number}
use Rattle.file_laws.specs.Ranges.{RowIn, by-columns, extension, label, shape, is_past}
use Rattle.places.specs.declared.Due.{Due}
use Rattle.places.specs.declared.Due.TheVariants.{Major, Minor, Revision}
use Rattle.places.specs.declared.Lines.{Lines}
use Rattle.places.specs.declared.Lines.TheVariants.{None as NoLines, Definitions, Rows, Shapes}
use Rattle.places.specs.declared.Listed.{Listed}
use Rattle.places.specs.declared.Listed.TheVariants.{Entries, Triggers, Labels, Unknown}
use Rattle.places.specs.declared.Place.{Place}
use Rattle.places.specs.declared.Place.TheVariants.{Start, Version, Section, Extensions, Head, Values, Signature}
use Rattle.places.specs.declared.Fault.{Fault}
use Rattle.places.specs.declared.Fault.TheVariants.{Line as LineFault, Version as VersionFault, Section as SectionFault, Field as FieldFault}
use Rattle.places.specs.declared.Found.{Found}
use Rattle.places.specs.declared.Found.TheVariants.{Nothing, Row as FoundRow, Definition, Fault as FoundFault}
use Rattle.places.specs.declared.State.{State}
use Rattle.places.specs.declared.Stepped.{Stepped}

-- ---- a shape whose ID was read has one in its range
pub record IdIn (z : ℤ) : Type 0 where
  pub id : ℕ
  pub same : z ≡ pos id
  pub least : 1 ≤ id
  pub most : id ≤ largest_id

abbrev pub HeadIn : Place → Type 0
HeadIn Start = Unit
HeadIn (Version due) = Unit
HeadIn (Section lines) = Unit
HeadIn (Extensions listed) = Unit
HeadIn (Head z n) = IdIn z
HeadIn Values = Unit
HeadIn Signature = Unit

-- ---- what a line gives to the samples: only a row of a shape gives some, and its place is where they begin
abbrev pub given : Found → List ℤ → ℕ
given Nothing cells = 0
given FoundRow cells = shape_count cells
given Definition cells = 0
given (FoundFault f) cells = 0

pub record Stack (st : State) (r : Stepped) : Type 0 where
  pub place : r.found ≡ FoundRow → is_shape_of r.cells ≡ true → st.samples ≤ largest → nat_abs (get_or r.cells 3 (pos 0)) ≡ st.samples
  pub after : st.samples + given r.found r.cells ≤ largest → r.next.samples ≡ st.samples + given r.found r.cells
  pub some : given r.found r.cells ≤ 1000000

-- ---- a line is fine: the row that it gives is in range, and the state behind it is sound
pub record Fine (st : State) (r : Stepped) : Type 0 where
  pub row : r.found ≡ FoundRow → RowIn st.edition r.cells
  pub known : r.found ≡ FoundRow → is_past st.place ≡ true
  pub head : HeadIn r.next.place
  pub same : is_past st.place ≡ true → r.next.edition ≡ st.edition
  pub past : is_past st.place ≡ true → is_past r.next.place ≡ true
  pub few : r.next.samples ≤ st.samples + 1000000
  pub stack : Stack st r

nothing-row : Nothing ≡ FoundRow → ⊥
nothing-row e = let z : ◌≡◌ {A = ℕ} 0 1 = cc in omega arith

definition-row : Definition ≡ FoundRow → ⊥
definition-row e = let z : ◌≡◌ {A = ℕ} 0 1 = cc in omega arith

fault-row : {f : Fault} → FoundFault f ≡ FoundRow → ⊥
fault-row e = let z : ◌≡◌ {A = ℕ} 0 1 = cc in omega arith

-- a place that is one of two
pick : (P : Place → Type 0) (b : Bool) (x y : Place) → P x → P y → P (cond b x y)
pick P true x y p q = p
pick P false x y p q = q

place-head : (k : ℕ) → HeadIn (place_in k)
unfolding place_in
place-head k =
    pick HeadIn (eqb k 2) _ _ tt
    (pick HeadIn (eqb k 3) _ _ tt
    (pick HeadIn (eqb k 4) _ _ tt
    (pick HeadIn (eqb k 5) _ _ tt
    (pick HeadIn (eqb k 6) _ _ tt
    (pick HeadIn (eqb k 7) _ _ tt
    (pick HeadIn (eqb k 8) _ _ tt
    (pick HeadIn (eqb k 9) _ _ tt (pick HeadIn (eqb k 10) _ _ tt tt))))))))

abbrev Past : Place → Type 0
Past place = is_past place ≡ true

place-past : (k : ℕ) → Past (place_in k)
unfolding place_in is_past
place-past k =
    pick Past (eqb k 2) _ _ refl
    (pick Past (eqb k 3) _ _ refl
    (pick Past (eqb k 4) _ _ refl
    (pick Past (eqb k 5) _ _ refl
    (pick Past (eqb k 6) _ _ refl
    (pick Past (eqb k 7) _ _ refl
    (pick Past (eqb k 8) _ _ refl
    (pick Past (eqb k 9) _ _ refl (pick Past (eqb k 10) _ _ refl refl))))))))

-- a shape is the kind that it says, and no other kind is one; rows with columns are none
kind-shape : (kind : ℕ) (vs : List ℤ) → length vs ≤ 11 → is_shape_of (padded kind vs) ≡ eqb kind 11
unfolding same_z
kind-shape kind vs h = rw (kind-first kind vs h)

form-no-shape : (form : Form) (vs : List ℤ) → length vs ≤ 11 → is_shape_of (padded (form_number form) vs) ≡ false
unfolding same_z
form-no-shape form vs h = rw (kind-first (form_number form) vs h) (by_form form)
  where
    by_form : (form : Form) → same_z (pos (form_number form)) (pos 11) ≡ false
    by_form Block = refl
    by_form Rf = refl
    by_form Gradient = refl
    by_form Trap = refl
    by_form Adc = refl
    by_form Delay = refl
    by_form Entry = refl
    by_form Trigger = refl

shape-samples : (vs : List ℤ) → length vs ≤ 11 → (num : ℕ) → get_or vs 1 (pos 0) ≡ pos num → shape_count (padded 11 vs) ≡ num
unfolding shape_count
shape-samples vs h num e = rw (kind-shape 11 vs h, own-number 11 vs h 1, e)

module _ (st : State) where
  fine-went : (next : State) → HeadIn next.place → (is_past st.place ≡ true → next.edition ≡ st.edition)
      → (is_past st.place ≡ true → is_past next.place ≡ true) → next.samples ≡ st.samples → Fine st (went_of next)
  fine-went next h s p q = record { row = λ e. absurd (nothing-row e); known = λ e. absurd (nothing-row e); head = h; same = s; past = p; few = omega arith; stack = record { place = λ e. absurd (nothing-row e); after = λ m. omega arith; some = omega arith } }

  module _ (h : HeadIn st.place) where
    fine-stay : Fine st (went_of st)
    fine-stay = fine-went st h (λ e. refl) (λ e. e) refl

    fine-refused : (f : Fault) → Fine st (refused_of st f)
    fine-refused f =
        record {
          row = λ e. absurd (fault-row e);
          known = λ e. absurd (fault-row e);
          head = h;
          same = λ e. refl;
          past = λ e. e;
          few = omega arith;
          stack = record { place = λ e. absurd (fault-row e); after = λ m. omega arith; some = omega arith };
        }

    fine-defined : Fine st (defined_of st)
    fine-defined =
        record {
          row = λ e. absurd (definition-row e);
          known = λ e. absurd (definition-row e);
          head = h;
          same = λ e. refl;
          past = λ e. e;
          few = omega arith;
          stack = record { place = λ e. absurd (definition-row e); after = λ m. omega arith; some = omega arith };
        }

    -- a row, where the file stands behind VERSION
    fine-gave : is_past st.place ≡ true → (next : State) → HeadIn next.place → next.edition ≡ st.edition → is_past next.place ≡ true → next.samples ≤ st.samples + 1000000 → (n : ℕ) (cells : List ℤ)
        → RowIn st.edition cells → Stack st (gave_of next n cells) → Fine st (gave_of next n cells)
    fine-gave p next k s q m n cells i t = record { row = λ e. i; known = λ e. p; head = k; same = λ e. s; past = λ e. q; few = m; stack = t }

    -- a row that is no shape, and the row of a shape
    stack-other : (next : State) → next.samples ≡ st.samples → (n : ℕ) (cells : List ℤ) → is_shape_of cells ≡ false → Stack st (gave_of next n cells)
    unfolding shape_count
    stack-other next q n cells f = record { place = λ e g. absurd (true≢false (sym g ∙ f)); after = λ m. rw f (omega arith); some = rw f (omega arith) }

    stack-shape : (next : State) (z : ℤ) (num : ℕ) → next.samples ≡ min (st.samples + num) largest → num ≤ 1000000 → (n : ℕ)
        → Stack st (gave_of next n (padded 11 (z ∷ pos num ∷ pos (min st.samples largest) ∷ [])))
    stack-shape next z num q few n =
        let vs = z ∷ pos num ∷ pos (min st.samples largest) ∷ [] in
        let many : shape_count (padded 11 vs) ≡ num = shape-samples vs (omega arith) num refl in
        record {
          place = λ e g (m : st.samples ≤ largest). rw (own-number 11 vs (omega arith) 2) (omega arith);
          after = λ m. omega arith;
          some = omega arith;
        }

    -- ---- blank lines and sections
    fine-enter : (k : ℕ) → Fine st (enter_of st k)
    unfolding enter_of
    fine-enter k = go (may_enter st k)
      where
        go : (b : Bool) → Fine st (cond b (went_of (entered st k (place_in k))) (refused_of st SectionFault))
        go true = fine-went (entered st k (place_in k)) (place-head k) (λ e. refl) (λ e. place-past k) refl
        go false = fine-refused SectionFault

    fine-blank : (place : Place) → st.place ≡ place → Fine st (blank_step st place)
    unfolding blank_step is_past
    fine-blank Start q = fine-stay
    fine-blank (Version due) q = fine-stay
    fine-blank (Section lines) q = fine-stay
    fine-blank (Extensions listed) q = fine-stay
    fine-blank (Head id n) q = fine-refused FieldFault
    fine-blank Values q = fine-went (moved_of st (Section Shapes)) tt (λ e. refl) (λ e. refl) refl
    fine-blank Signature q = fine-stay

    fine-early : (k : ℕ) → Fine st (early_section st k)
    unfolding early_section
    fine-early k = go (may_enter st k)
      where
        go : (b : Bool) → Fine st (cond b (refused_of st FieldFault) (refused_of st SectionFault))
        go true = fine-refused FieldFault
        go false = fine-refused SectionFault

    -- before VERSION's rows are read nothing is said of the edition
    fine_before : (next : State) → HeadIn next.place → is_past st.place ≡ false → next.samples ≡ st.samples → Fine st (went_of next)
    fine_before next k q m = fine-went next k (λ e. absurd (true≢false (sym e ∙ q))) (λ e. absurd (true≢false (sym e ∙ q))) m

    start-early : st.place ≡ Start → is_past st.place ≡ false
    unfolding is_past
    start-early q = rw q

    version-early : (due : Due) → st.place ≡ Version due → is_past st.place ≡ false
    unfolding is_past
    version-early due q = rw q

    fine-section : (k : ℕ) (place : Place) → st.place ≡ place → Fine st (section_at st k place)
    unfolding section_at
    fine-section k Start q = go (eqb k 1)
      where
        go : (b : Bool) → Fine st (cond b (went_of (entered st 1 (Version Major))) (refused_of st VersionFault))
        go true = fine_before (entered st 1 (Version Major)) tt (start-early q) refl
        go false = fine-refused VersionFault
    fine-section k (Version due) q = fine-refused VersionFault
    fine-section k (Section lines) q = fine-enter k
    fine-section k (Extensions listed) q = fine-enter k
    fine-section k (Head id n) q = fine-early k
    fine-section k Values q = fine-enter k
    fine-section k Signature q = fine-refused SectionFault

    -- ---- VERSION
    fine-row : (next : State) → HeadIn next.place → is_past st.place ≡ false → next.samples ≡ st.samples → (v : (Option ℕ)) → Fine st (version_row st next v)
    unfolding version_row
    fine-row next k q m (Some v) = fine_before next k q m
    fine-row next k q m None = fine-refused VersionFault

    fine-minor : is_past st.place ≡ false → (v : (Option ℕ)) → Fine st (minor_row st v)
    unfolding minor_row
    fine-minor q (Some v) = fine_before (record { place = Version Revision; edition = edition_of v; seen = st.seen; samples = st.samples }) tt q refl
    fine-minor q None = fine-refused VersionFault

    fine-version : (fields : List (List ℕ)) (due : Due) → is_past st.place ≡ false → Fine st (version_step st fields due)
    unfolding version_step
    fine-version fields Major q = fine-row (moved_of st (Version Minor)) tt q refl (word_number_of major_word 1 1 fields)
    fine-version fields Minor q = fine-minor q (word_number_of minor_word 3 4 fields)
    fine-version fields Revision q = fine-row (moved_of st (Section NoLines)) tt q refl (word_number_of revision_word 0 1 fields)

    -- ---- sections behind it
    fine-definition : (line : List ℕ) → Fine st (definition_step st line)
    unfolding definition_step
    fine-definition line = go (is_definition line)
      where
        go : (b : Bool) → Fine st (cond b (defined_of st) (refused_of st FieldFault))
        go true = fine-defined
        go false = fine-refused FieldFault

    fine-value : (i : Item) → Fine st (value_row st i)
    unfolding value_row
    fine-value (ItemValue d) = fine-stay
    fine-value Skipped = fine-stay
    fine-value ItemBad = fine-refused FieldFault

    module _ (p : is_past st.place ≡ true) where
      fine-rows : (n : ℕ) (form : Form) (fields : List (List ℕ)) → Fine st (row_step st n form fields)
      unfolding row_step given_row row_is
      fine-rows n form fields = go (row_from (columns_of st.edition form) fields) refl
        where
          go : (o : Option (List ℤ)) → row_from (columns_of st.edition form) fields ≡ o → Fine st (given_row st n (row_is form o))
          go None e = fine-refused FieldFault
          go (Some vs) e = fine-gave p st h refl p (omega arith) n (padded (form_number form) vs) (by-columns form vs (row-in-range (columns_of st.edition form) fields vs e))
              (stack-other st refl n (padded (form_number form) vs) (form-no-shape form vs (row_fits st.edition form (row-in-range (columns_of st.edition form) fields vs e))))

      fine-label : (n : ℕ) (increment : Bool) (fields : List (List ℕ)) → Fine st (label_step st n increment fields)
      unfolding label_step label_row
      fine-label n increment fields = go (label_of st.edition increment fields) refl
        where
          flag : (b : Bool) → cond b 1 0 ≤ 1
          flag true = omega arith
          flag false = omega arith

          go : (l : Option LabelLine) → label_of st.edition increment fields ≡ l → Fine st (label_row st n increment l)
          go (Some line) e =
              let r = label-range st.edition increment fields line.id line.value line.label e in
              fine-gave p st h refl p (omega arith) n _ (label line.id (cond increment 1 0) line.label line.value r.0 r.1 (flag increment) r.2 r.3 r.4)
              (stack-other st refl n _ (kind-shape 10 (pos line.id ∷ pos (cond increment 1 0) ∷ line.value ∷ pos line.label ∷ []) (omega arith)))
          go None e = fine-refused FieldFault

      fine-extension : (n : ℕ) (fields : List (List ℕ)) → Fine st (extension_step st n fields)
      unfolding extension_step extension_row is_past
      fine-extension n fields = go (extension_of fields) refl
        where
          go : (l : Option ExtensionLine) → extension_of fields ≡ l → Fine st (extension_row st n l)
          go (Some line) e =
              let r = extension-range fields line.number line.code e in
              fine-gave p (moved_of st (Extensions (listed_of line.code))) tt refl refl (omega arith) n _ (extension line.number line.code r.0 r.1 r.2)
              (stack-other (moved_of st (Extensions (listed_of line.code))) refl n _ (kind-shape 8 (pos line.number ∷ pos line.code ∷ []) (omega arith)))
          go None e = fine-refused FieldFault

      fine-listed : (n : ℕ) (fields : List (List ℕ)) (listed : Listed) → Fine st (listed_step st n fields listed)
      unfolding listed_step
      fine-listed n fields Entries = fine-rows n Entry fields
      fine-listed n fields Triggers = fine-rows n Trigger fields
      fine-listed n fields (Labels increment) = fine-label n increment fields
      fine-listed n fields Unknown = fine-stay

      fine-extensions : (n : ℕ) (fields : List (List ℕ)) (listed : Listed) → Fine st (extensions_step st n fields listed)
      unfolding extensions_step
      fine-extensions n fields listed = go (is_extension fields)
        where
          go : (b : Bool) → Fine st (cond b (extension_step st n fields) (listed_step st n fields listed))
          go true = fine-extension n fields
          go false = fine-listed n fields listed

      fine-head : (n : ℕ) (fields : List (List ℕ)) → Fine st (head_step st n fields)
      unfolding head_step head_row is_past
      fine-head n fields = go (word_number_of shape_id_word 1 largest_id fields) refl
        where
          go : (v : (Option ℕ)) → word_number_of shape_id_word 1 largest_id fields ≡ v → Fine st (head_row st n v)
          go (Some id) e =
              let r = word-range shape_id_word 1 largest_id fields id e in
              fine-went (moved_of st (Head (pos id) n)) (record { id = id; same = refl; least = r.0; most = r.1 }) (λ e. refl) (λ e. refl) refl
          go None e = fine-refused FieldFault

      fine-count : (z : ℤ) → IdIn z → (n : ℕ) (fields : List (List ℕ)) → Fine st (count_step st z n fields)
      unfolding count_step count_row counted_of is_past
      fine-count z i n fields = go (word_number_of num_samples_word 1 1000000 fields) refl
        where
          go : (v : (Option ℕ)) → word_number_of num_samples_word 1 1000000 fields ≡ v → Fine st (count_row st z n v)
          go (Some num) e =
              let r = word-range num_samples_word 1 1000000 fields num e in
              fine-gave p (counted_of st num) tt refl refl (omega (arith, r.1)) n _ (rw i.same (shape i.id num (min st.samples largest) i.least i.most r.0 r.1 (omega arith))) (stack-shape (counted_of st num) z num refl r.1 n)
          go None e = fine-refused FieldFault

      fine-lines : (n : ℕ) (line : List ℕ) (lines : Lines) → Fine st (lines_step st n line lines)
      unfolding lines_step
      fine-lines n line NoLines = fine-refused VersionFault
      fine-lines n line Definitions = fine-definition line
      fine-lines n line (Rows form) = fine-rows n form (fields_of line)
      fine-lines n line Shapes = fine-head n (fields_of line)

    past_is : (place : Place) → st.place ≡ place → is_past place ≡ true → is_past st.place ≡ true
    past_is place q e = rw q e

    head-is : (z : ℤ) (m : ℕ) → st.place ≡ Head z m → IdIn z
    head-is z m q = rw q at h

    fine-plain : (n : ℕ) (line : List ℕ) (place : Place) → st.place ≡ place → Fine st (plain_step st n line place)
    unfolding plain_step is_past
    fine-plain n line Start q = fine-refused VersionFault
    fine-plain n line (Version due) q = fine-version (fields_of line) due (version-early due q)
    fine-plain n line (Section lines) q = fine-lines (past_is (Section lines) q refl) n line lines
    fine-plain n line (Extensions listed) q = fine-extensions (past_is (Extensions listed) q refl) n (fields_of line) listed
    fine-plain n line (Head z m) q = fine-count (past_is (Head z m) q refl) z (head-is z m q) m (fields_of line)
    fine-plain n line Values q = fine-value (item_of line)
    fine-plain n line Signature q = fine-stay

    fine-marked : (n : ℕ) (line : List ℕ) (mark : Mark) → Fine st (marked_step st n line mark)
    unfolding marked_step section_step
    fine-marked n line Comment = fine-stay
    fine-marked n line Blank = fine-blank st.place refl
    fine-marked n line SectionLine = fine-section (section_no line) st.place refl
    fine-marked n line Plain = fine-plain n line st.place refl

    -- ---- every line
    pub step-fine : (n : ℕ) (line : List ℕ) → Fine st (step_of st n line)
    unfolding step_of
    step-fine n line = go (breaks_line line)
      where
        go : (b : Bool) → Fine st (cond b (refused_of st LineFault) (marked_step st n line (mark_of line)))
        go true = fine-refused LineFault
        go false = fine-marked n line (mark_of line)
