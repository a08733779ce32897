-- The lines of a file's words rise, and so do those of its rows. Assumes nothing.
use Rattle.duplicates.specs.declared.Sort.{Sort}
use Rattle.std.proofs.Common.{Option, None, Some}
use Prim.Native.Nat.{ℕ, zero, suc, ◌<◌, ◌≤◌}
use mathlib.Core.Bool.{Bool, true, false, cond}
use mathlib.Core.List.{List, [], ◌∷◌, ◌++◌}
use mathlib.Core.Path.{◌≡◌, refl}
use native.Mathlib.Omega.{arith}
use lib.Dec.{eqb}
use lib.IntN.{ℤ}
use lib.ListN.{length, get_or}
use Rattle.fields.specs.Fields.{fields_of}
use Rattle.text.specs.Lines.{lines_of}
use Rattle.text.specs.Marks.{mark_of, breaks_line}
use Rattle.text.specs.declared.Mark.{Mark}
use Rattle.text.specs.declared.Mark.TheVariants.{Blank, Comment, Section as SectionLine, Plain}
use Rattle.numeral.specs.Integer.{largest_id}
use Rattle.shape.specs.Stored.{item_of}
use Rattle.shape.specs.declared.Item.{Item}
use Rattle.shape.specs.declared.Item.TheVariants.{Value as ItemValue, Skipped, Bad as ItemBad}
use Rattle.columns.specs.Columns.{columns_of}
use Rattle.rows.specs.Cells.{row_from, row_is}
use Rattle.columns.specs.declared.Form.{Form}
use Rattle.columns.specs.declared.Form.TheVariants.{Entry, Trigger}
use Rattle.heads.specs.Heads.{label_of, extension_of, word_number_of}
use Rattle.heads.specs.declared.Label.{Label as LabelLine}
use Rattle.heads.specs.declared.Extension.{Extension as ExtensionLine}
use Rattle.sections.specs.Sections.{section_no, place_in}
use Rattle.grammar.specs.Definitions.{is_definition}
use Rattle.places.specs.Places.{fresh, went_of, refused_of, moved_of}
use Rattle.grammar.specs.Steps.{defined_of, gave_of, blank_step, definition_step, given_row, row_step, label_row, label_step, listed_of, extension_row, extension_step, is_extension, listed_step, extensions_step, shape_id_word, num_samples_word, head_row, head_step, counted_of, count_row, count_step, value_row, lines_step, plain_step, marked_step, step_of}
use Rattle.sections.specs.Entering.{may_enter, entered, enter_of, early_section, section_at, section_step}
use Rattle.sections.specs.Version.{major_word, minor_word, revision_word, version_row, edition_of, minor_row, version_step}
use Rattle.places.specs.declared.Due.{Due}
use Rattle.places.specs.declared.Due.TheVariants.{Major, Minor, Revision}
use Rattle.places.specs.declared.Lines.{Lines}
use Rattle.places.specs.declared.Lines.TheVariants.{None as NoLines, Definitions, Rows, Shapes}
use Rattle.places.specs.declared.Listed.{Listed}
use Rattle.places.specs.declared.Listed.TheVariants.{Entries, Triggers, Labels, Unknown}
use Rattle.places.specs.declared.Place.{Place}
use Rattle.places.specs.declared.Place.TheVariants.{Start, Version, Section, Extensions, Head, Values, Signature}
use Rattle.places.specs.declared.Fault.{Fault}
use Rattle.places.specs.declared.Fault.TheVariants.{Line as LineFault, Version as VersionFault, Section as SectionFault, Field as FieldFault}
use Rattle.places.specs.declared.Found.{Found}
use Rattle.places.specs.declared.Found.TheVariants.{Nothing, Row as FoundRow, Definition, Fault as FoundFault}
use Rattle.places.specs.declared.State.{State}
use Rattle.places.specs.declared.Stepped.{Stepped}
use Rattle.file.specs.Whole.{is_fault, is_row, gathered}
use Rattle.file.specs.Rows.{Placed, row_at, rows_from, rows_of, line_of}
use Rattle.duplicates.specs.Words.{Word, once_of, words_in, word_at, words_from, words_of}
use Rattle.duplicates.specs.Inside.{word_line, row_line}

-- ---- things with lines that rise, the first at line m or behind
pub data Rising {A : Type 0} (line : A → ℕ) : ℕ → List A → Type 0 where
  no_more : {m : ℕ} → Rising line m []
  one_more : {m : ℕ} {x : A} {xs : List A} → m ≤ line x → Rising line (suc (line x)) xs → Rising line m (x ∷ xs)

rising-from : {A : Type 0} {line : A → ℕ} {m k : ℕ} {xs : List A} → k ≤ m → Rising line m xs → Rising line k xs
rising-from h no_more = no_more
rising-from {line = line} {k = k} h (one_more {m} {x} {xs} l r) = let y : k ≤ line x = omega arith in one_more y r

-- none stands before line m
pub rising-low : {A : Type 0} {line : A → ℕ} {m : ℕ} {xs : List A} (d : A) → Rising line m xs → (j : ℕ) → j < length xs → m ≤ line (get_or xs j d)
rising-low d no_more j h = absurd (omega arith)
rising-low d (one_more l r) zero h = l
rising-low {line = line} d (one_more {x = x} {xs = xs} l r) (suc j) h = let k = rising-low d r j (omega arith) in omega arith

-- each stands before those behind it
pub rising-order : {A : Type 0} {line : A → ℕ} {m : ℕ} {xs : List A} (d : A) → Rising line m xs → (j k : ℕ) → j < k → k < length xs → line (get_or xs j d) < line (get_or xs k d)
rising-order d no_more j k l h = absurd (omega arith)
rising-order d (one_more l r) j zero b h = absurd (omega arith)
rising-order {line = line} d (one_more {x = x} l r) zero (suc k) b h = rising-low d r k (omega arith)
rising-order d (one_more l r) (suc j) (suc k) b h = rising-order d r j k (omega arith) (omega arith)

-- ---- words
words-from : (st : State) (n : ℕ) (ls : List (List ℕ)) → Rising word_line n (words_from st n ls)
unfolding gathered word_at words_in
words-from st n [] = no_more
words-from st n (l ∷ ls) = go (is_fault (step_of st n l).found) (once_of (step_of st n l)) (words-from (step_of st n l).next (suc n) ls)
  where
    go : (b : Bool) (o : (Option Sort)) {ws : List Word} → Rising word_line (suc n) ws → Rising word_line n (cond b [] (words_in n l o ++ ws))
    go true o r = no_more
    go false None r = rising-from (omega arith) r
    go false (Some sort) r = let x : n ≤ n = omega arith in one_more x r

pub words-rise : (file : List ℕ) → Rising word_line 1 (words_of file)
unfolding words_of
words-rise file = words-from fresh 1 (lines_of file)

-- ---- rows
pub rows-low : {m : ℕ} {rs : List Placed} → Rising row_line m rs → (k : ℕ) → k < length rs → m ≤ line_of rs k
unfolding line_of
rows-low no_more k h = absurd (omega arith)
rows-low (one_more l r) zero h = l
rows-low (one_more l r) (suc k) h = let i = rows-low r k (omega arith) in omega arith

pub rows-ordered : {m : ℕ} {rs : List Placed} → Rising row_line m rs → (j k : ℕ) → j ≤ k → k < length rs → line_of rs j ≤ line_of rs k
unfolding line_of
rows-ordered no_more j k e h = absurd (omega arith)
rows-ordered (one_more l r) zero zero e h = omega arith
rows-ordered (one_more l r) zero (suc k) e h = let i = rows-low r k (omega arith) in omega arith
rows-ordered (one_more l r) (suc j) zero e h = absurd (omega arith)
rows-ordered (one_more l r) (suc j) (suc k) e h = rows-ordered r j k (omega arith) (omega arith)

-- the least line that a row from line n on can have: a shape's is that of its head
abbrev floor : Place → ℕ → ℕ
floor Start n = n
floor (Version due) n = n
floor (Section lines) n = n
floor (Extensions listed) n = n
floor (Head z m) n = m
floor Values n = n
floor Signature n = n

floor-next : (place : Place) (n : ℕ) → floor place n ≤ n → floor place (suc n) ≤ suc n
floor-next Start n h = omega arith
floor-next (Version due) n h = omega arith
floor-next (Section lines) n h = omega arith
floor-next (Extensions listed) n h = omega arith
floor-next (Head z m) n h = omega arith
floor-next Values n h = omega arith
floor-next Signature n h = omega arith

floor-later : (place : Place) (n : ℕ) → floor place n ≤ floor place (suc n)
floor-later Start n = omega arith
floor-later (Version due) n = omega arith
floor-later (Section lines) n = omega arith
floor-later (Extensions listed) n = omega arith
floor-later (Head z m) n = omega arith
floor-later Values n = omega arith
floor-later Signature n = omega arith

-- a line goes onward: behind it no row has the line of its row, or one before
record Onward (st : State) (n : ℕ) (r : Stepped) : Type 0 where
  within : floor r.next.place (suc n) ≤ suc n
  later : floor st.place n ≤ floor r.next.place (suc n)
  row : r.found ≡ FoundRow → (floor st.place n ≤ r.line) × (r.line < floor r.next.place (suc n))

nothing-row : Nothing ≡ FoundRow → ⊥
nothing-row e = let z : ◌≡◌ {A = ℕ} 0 1 = cc in omega arith

definition-row : Definition ≡ FoundRow → ⊥
definition-row e = let z : ◌≡◌ {A = ℕ} 0 1 = cc in omega arith

fault-row : {f : Fault} → FoundFault f ≡ FoundRow → ⊥
fault-row e = let z : ◌≡◌ {A = ℕ} 0 1 = cc in omega arith

-- a place that is no shape's head
abbrev Plainly : ℕ → Place → Type 0
Plainly n place = floor place (suc n) ≡ suc n

pick : (P : Place → Type 0) (b : Bool) (x y : Place) → P x → P y → P (cond b x y)
pick P true x y p q = p
pick P false x y p q = q

place-plainly : (n k : ℕ) → Plainly n (place_in k)
unfolding place_in
place-plainly n k =
    pick (Plainly n) (eqb k 2) _ _ refl
    (pick (Plainly n) (eqb k 3) _ _ refl
    (pick (Plainly n) (eqb k 4) _ _ refl
    (pick (Plainly n) (eqb k 5) _ _ refl
    (pick (Plainly n) (eqb k 6) _ _ refl
    (pick (Plainly n) (eqb k 7) _ _ refl
    (pick (Plainly n) (eqb k 8) _ _ refl
    (pick (Plainly n) (eqb k 9) _ _ refl (pick (Plainly n) (eqb k 10) _ _ refl refl))))))))

module _ (st : State) (n : ℕ) (h : floor st.place n ≤ n) where
  on-stay : Onward st n (went_of st)
  on-stay = record { within = floor-next st.place n h; later = floor-later st.place n; row = λ e. absurd (nothing-row e) }

  on-refused : (f : Fault) → Onward st n (refused_of st f)
  on-refused f = record { within = floor-next st.place n h; later = floor-later st.place n; row = λ e. absurd (fault-row e) }

  on-defined : Onward st n (defined_of st)
  on-defined = record { within = floor-next st.place n h; later = floor-later st.place n; row = λ e. absurd (definition-row e) }

  on-went : (next : State) → Plainly n next.place → Onward st n (went_of next)
  on-went next q = record { within = omega arith; later = omega arith; row = λ e. absurd (nothing-row e) }

  on-gave : (next : State) → Plainly n next.place → (k : ℕ) → floor st.place n ≤ k → k ≤ n → (cells : List ℤ) → Onward st n (gave_of next k cells)
  on-gave next q k a b cells = record { within = omega arith; later = omega arith; row = λ e. (omega arith, omega arith) }

  -- ---- blank lines and sections
  on-enter : (k : ℕ) → Onward st n (enter_of st k)
  unfolding enter_of
  on-enter k = go (may_enter st k)
    where
      go : (b : Bool) → Onward st n (cond b (went_of (entered st k (place_in k))) (refused_of st SectionFault))
      go true = on-went (entered st k (place_in k)) (place-plainly n k)
      go false = on-refused SectionFault

  on-blank : (place : Place) → Onward st n (blank_step st place)
  unfolding blank_step
  on-blank Start = on-stay
  on-blank (Version due) = on-stay
  on-blank (Section lines) = on-stay
  on-blank (Extensions listed) = on-stay
  on-blank (Head id m) = on-refused FieldFault
  on-blank Values = on-went (moved_of st (Section Shapes)) refl
  on-blank Signature = on-stay

  on-early : (k : ℕ) → Onward st n (early_section st k)
  unfolding early_section
  on-early k = go (may_enter st k)
    where
      go : (b : Bool) → Onward st n (cond b (refused_of st FieldFault) (refused_of st SectionFault))
      go true = on-refused FieldFault
      go false = on-refused SectionFault

  on-section : (k : ℕ) (place : Place) → Onward st n (section_at st k place)
  unfolding section_at
  on-section k Start = go (eqb k 1)
    where
      go : (b : Bool) → Onward st n (cond b (went_of (entered st 1 (Version Major))) (refused_of st VersionFault))
      go true = on-went (entered st 1 (Version Major)) refl
      go false = on-refused VersionFault
  on-section k (Version due) = on-refused VersionFault
  on-section k (Section lines) = on-enter k
  on-section k (Extensions listed) = on-enter k
  on-section k (Head id m) = on-early k
  on-section k Values = on-enter k
  on-section k Signature = on-refused SectionFault

  -- ---- VERSION
  on-version : (next : State) → Plainly n next.place → (v : (Option ℕ)) → Onward st n (version_row st next v)
  unfolding version_row
  on-version next q (Some v) = on-went next q
  on-version next q None = on-refused VersionFault

  on-minor : (v : (Option ℕ)) → Onward st n (minor_row st v)
  unfolding minor_row
  on-minor (Some v) = on-went (record { place = Version Revision; edition = edition_of v; seen = st.seen; samples = st.samples }) refl
  on-minor None = on-refused VersionFault

  on-due : (fields : List (List ℕ)) (due : Due) → Onward st n (version_step st fields due)
  unfolding version_step
  on-due fields Major = on-version (moved_of st (Version Minor)) refl (word_number_of major_word 1 1 fields)
  on-due fields Minor = on-minor (word_number_of minor_word 3 4 fields)
  on-due fields Revision = on-version (moved_of st (Section NoLines)) refl (word_number_of revision_word 0 1 fields)

  -- ---- sections behind it
  on-definition : (line : List ℕ) → Onward st n (definition_step st line)
  unfolding definition_step
  on-definition line = go (is_definition line)
    where
      go : (b : Bool) → Onward st n (cond b (defined_of st) (refused_of st FieldFault))
      go true = on-defined
      go false = on-refused FieldFault

  on_value : (i : Item) → Onward st n (value_row st i)
  unfolding value_row
  on_value (ItemValue d) = on-stay
  on_value Skipped = on-stay
  on_value ItemBad = on-refused FieldFault

  on-head : (v : (Option ℕ)) → Onward st n (head_row st n v)
  unfolding head_row
  on-head (Some id) = record { within = omega arith; later = h; row = λ e. absurd (nothing-row e) }
  on-head None = on-refused FieldFault

  on-count : (z : ℤ) (m : ℕ) → st.place ≡ Head z m → (v : (Option ℕ)) → Onward st n (count_row st z m v)
  unfolding count_row counted_of
  on-count z m q (Some num) = on-gave (counted_of st num) refl m (rw q (let x : m ≤ m = omega arith in x)) (rw q at h) _
  on-count z m q None = on-refused FieldFault

  module _ (q : Plainly n st.place) where
    on_row : (form : Form) (fields : List (List ℕ)) → Onward st n (row_step st n form fields)
    unfolding row_step given_row row_is
    on_row form fields = go (row_from (columns_of st.edition form) fields)
      where
        go : (o : Option (List ℤ)) → Onward st n (given_row st n (row_is form o))
        go None = on-refused FieldFault
        go (Some vs) = on-gave st q n h (omega arith) _

    on-label : (increment : Bool) (l : Option LabelLine) → Onward st n (label_row st n increment l)
    unfolding label_row
    on-label increment (Some line) = on-gave st q n h (omega arith) _
    on-label increment None = on-refused FieldFault

    on-extension : (l : Option ExtensionLine) → Onward st n (extension_row st n l)
    unfolding extension_row
    on-extension (Some line) = on-gave (moved_of st (Extensions (listed_of line.code))) refl n h (omega arith) _
    on-extension None = on-refused FieldFault

    on-listed : (fields : List (List ℕ)) (listed : Listed) → Onward st n (listed_step st n fields listed)
    unfolding listed_step label_step
    on-listed fields Entries = on_row Entry fields
    on-listed fields Triggers = on_row Trigger fields
    on-listed fields (Labels increment) = on-label increment (label_of st.edition increment fields)
    on-listed fields Unknown = on-stay

    on-extensions : (fields : List (List ℕ)) (listed : Listed) → Onward st n (extensions_step st n fields listed)
    unfolding extensions_step extension_step
    on-extensions fields listed = go (is_extension fields)
      where
        go : (b : Bool) → Onward st n (cond b (extension_step st n fields) (listed_step st n fields listed))
        go true = on-extension (extension_of fields)
        go false = on-listed fields listed

    on-lines : (line : List ℕ) (lines : Lines) → Onward st n (lines_step st n line lines)
    unfolding lines_step head_step
    on-lines line NoLines = on-refused VersionFault
    on-lines line Definitions = on-definition line
    on-lines line (Rows form) = on_row form (fields_of line)
    on-lines line Shapes = on-head (word_number_of shape_id_word 1 largest_id (fields_of line))

  plainly-is : (place : Place) → st.place ≡ place → Plainly n place → Plainly n st.place
  plainly-is place q e = rw q e

  on-plain : (line : List ℕ) (place : Place) → st.place ≡ place → Onward st n (plain_step st n line place)
  unfolding plain_step count_step
  on-plain line Start q = on-refused VersionFault
  on-plain line (Version due) q = on-due (fields_of line) due
  on-plain line (Section lines) q = on-lines (plainly-is (Section lines) q refl) line lines
  on-plain line (Extensions listed) q = on-extensions (plainly-is (Extensions listed) q refl) (fields_of line) listed
  on-plain line (Head z m) q = on-count z m q (word_number_of num_samples_word 1 1000000 (fields_of line))
  on-plain line Values q = on_value (item_of line)
  on-plain line Signature q = on-stay

  on-marked : (line : List ℕ) (mark : Mark) → Onward st n (marked_step st n line mark)
  unfolding marked_step section_step
  on-marked line Comment = on-stay
  on-marked line Blank = on-blank st.place
  on-marked line SectionLine = on-section (section_no line) st.place
  on-marked line Plain = on-plain line st.place refl

  step-onward : (line : List ℕ) → Onward st n (step_of st n line)
  unfolding step_of
  step-onward line = go (breaks_line line)
    where
      go : (b : Bool) → Onward st n (cond b (refused_of st LineFault) (marked_step st n line (mark_of line)))
      go true = on-refused LineFault
      go false = on-marked line (mark_of line)

rows-from : (st : State) (n : ℕ) (ls : List (List ℕ)) → floor st.place n ≤ n → Rising row_line (floor st.place n) (rows_from st n ls)
unfolding gathered row_at is_fault is_row
rows-from st n [] h = no_more
rows-from st n (l ∷ ls) h =
    let o = step-onward st n h l in
    go (step_of st n l) o (rows-from (step_of st n l).next (suc n) ls o.within)
  where
    go : (r : Stepped) → Onward st n r → {rs : List Placed} → Rising row_line (floor r.next.place (suc n)) rs → Rising row_line (floor st.place n) (cond (is_fault r.found) [] (cond (is_row r.found) (record { line = r.line; cells = r.cells } ∷ []) [] ++ rs))
    go r o {rs} x = by-found r.found refl
      where
        by-found : (f : Found) → r.found ≡ f → Rising row_line (floor st.place n) (cond (is_fault f) [] (cond (is_row f) (record { line = r.line; cells = r.cells } ∷ []) [] ++ rs))
        by-found Nothing e = rising-from o.later x
        by-found FoundRow e = one_more (o.row e).0 (rising-from (o.row e).1 x)
        by-found Definition e = rising-from o.later x
        by-found (FoundFault fault) e = no_more

pub rows-rise : (file : List ℕ) → Rising row_line 1 (rows_of file)
unfolding rows_of
rows-rise file = rows-from fresh 1 (lines_of file) (omega arith)
