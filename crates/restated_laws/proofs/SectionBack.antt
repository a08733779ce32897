-- VERSION and the sections of rows, as a text is restated, read back: no line is at fault, and the rows are those that were said. Assumes nothing.
use Rattle.std.proofs.Common.{None, Some}
use Prim.Native.Nat.{ℕ, zero, suc, ◌+◌, ◌/◌, ◌%◌, ◌^◌, min, ◌≤◌, ◌<◌}
use mathlib.Core.Bool.{Bool, true, false, cond, not, true≢false}
use mathlib.Core.List.{List, [], ◌∷◌, ◌++◌, append-nil}
use mathlib.Core.Logic.{◌⊎◌, inl, inr}
use mathlib.Core.Path.{◌≡◌, refl, sym, ◌∙◌}
use native.Mathlib.Nat.{eq-or-lt_of_le}
use native.Mathlib.Omega.{arith}
use borrow.Author.Tests.{eqb-true, lt-ltb, ltb-false}
use lib.Dec.{eqb, ltb}
use lib.IntN.{ℤ, pos}
use lib.ListN.{get_or, drop, set, replicate}
use Rattle.text.specs.Lines.{onto}
use Rattle.text.proofs.Cases.{and_both}
use Rattle.signed.specs.Signed.{largest}
use Rattle.unit.specs.Time.{in_micros}
use Rattle.text.specs.Marks.{is_blank, mark_of, is_comment, is_control, any_control, breaks_line}
use Rattle.text.specs.declared.Mark.TheVariants.{Section as SectionLine}
use Rattle.text.specs.Blanks.{blank_len}
use Rattle.text.specs.Words.{same_bytes, place_from}
use Rattle.fields.specs.Fields.{ends_field, fields_of, body_len, trimmed}
use Rattle.numeral.specs.Digits.{is_digit, all_digits, value_from}
use Rattle.numeral.specs.Integer.{largest_id, in_range, is_integer, integer_of}
use Rattle.heads.specs.Heads.{word_number_of}
use Rattle.shape.specs.declared.Edition.{Edition}
use Rattle.shape.specs.declared.Edition.TheVariants.{V13, V14}
use Rattle.columns.specs.Columns.{columns_of, form_number}
use Rattle.columns.specs.Rows.{padded}
use Rattle.columns.specs.Ranges.{InRange, no_more, one_number}
use Rattle.columns.specs.declared.Kind.TheVariants.{Id, Micros}
use Rattle.columns.specs.declared.Form.{Form}
use Rattle.columns.specs.declared.Form.TheVariants.{Block, Rf, Gradient, Trap, Adc, Delay, Entry, Trigger}
use Rattle.row_text.specs.Printed.{row_text}
use Rattle.tables.specs.Tables.{first_such}
use Rattle.tables.proofs.Found.{first-is}
use Rattle.sections.specs.Sections.{section_names, section_no, has_section, place_in}
use Rattle.sections.specs.Entering.{may_enter, entered, enter_of, section_at, section_step}
use Rattle.sections.specs.Version.{major_word, minor_word, revision_word, version_row, edition_of, minor_row, version_step}
use Rattle.places.specs.Places.{went_of, fresh}
use Rattle.places.specs.declared.Lines.{Lines}
use Rattle.places.specs.declared.Lines.TheVariants.{None as NoLines, Rows}
use Rattle.places.specs.declared.Place.{Place}
use Rattle.places.specs.declared.Place.TheVariants.{Start, Version, Section, Extensions, Head, Values, Signature}
use Rattle.places.specs.declared.State.{State}
use Rattle.grammar.specs.Steps.{blank_step, plain_step, marked_step, step_of}
use Rattle.file.specs.Rows.{Placed}
use Rattle.blocks.specs.Blocks.{is_block}
use Rattle.sayable.specs.Sayable.{nanos_at}
use Rattle.durations.specs.Durations.{is_alike, first_use, is_first, use_count, uses_in, delay_number}
use Rattle.said.specs.Said.{said_row, is_of_form, line_text, row_line, lines_text, has_kind, section_of}
use Rattle.said.proofs.Short.{AllSmall, Small, said-small}
use Rattle.section_text.specs.Sections.{version_text, head_text, section_text, whole_micros, micros_at, delay_row, delay_line, has_delays, delay_section}
use Rattle.restated_laws.proofs.Sections.{delay-row-small}
use Rattle.restated_laws.proofs.Going.{Goes, goes_none, goes_then, goes-went, goes-row}
use Rattle.restated_laws.proofs.RowBack.{own_of, plain-line, row_plain, row-line-back}

-- ---- VERSION: the file stands in no section, its edition is the target
abbrev pub versioned : Edition → State
versioned target = record { place = Section NoLines; edition = target; seen = set (replicate 12 false) 1 true; samples = 0 }

pub line_of : (l : List ℕ) → any_control l ≡ false → {st next : State} {n : ℕ} → step_of st n l ≡ went_of next → Goes st n (l ++ (10 ∷ [])) [] [] next (suc n)
line_of l c e = goes-went l (plain-line l c) e

pub version-back : (target : Edition) → Goes fresh 1 (version_text target) [] [] (versioned target) 6
unfolding version_text onto is_blank mark_of is_comment is_control any_control breaks_line ends_field fields_of blank_len body_len trimmed same_bytes place_from is_digit all_digits value_from in_range is_integer integer_of word_number_of section_names section_no section_at section_step major_word minor_word revision_word version_row edition_of minor_row version_step plain_step blank_step marked_step step_of
version-back V13 =
    goes_then (line_of (91 ∷ 86 ∷ 69 ∷ 82 ∷ 83 ∷ 73 ∷ 79 ∷ 78 ∷ 93 ∷ []) refl refl)
    (goes_then (line_of (109 ∷ 97 ∷ 106 ∷ 111 ∷ 114 ∷ 32 ∷ 49 ∷ []) refl refl)
    (goes_then (line_of (109 ∷ 105 ∷ 110 ∷ 111 ∷ 114 ∷ 32 ∷ 51 ∷ []) refl refl)
    (goes_then (line_of (114 ∷ 101 ∷ 118 ∷ 105 ∷ 115 ∷ 105 ∷ 111 ∷ 110 ∷ 32 ∷ 49 ∷ []) refl refl) (line_of [] refl refl))))
version-back V14 =
    goes_then (line_of (91 ∷ 86 ∷ 69 ∷ 82 ∷ 83 ∷ 73 ∷ 79 ∷ 78 ∷ 93 ∷ []) refl refl)
    (goes_then (line_of (109 ∷ 97 ∷ 106 ∷ 111 ∷ 114 ∷ 32 ∷ 49 ∷ []) refl refl)
    (goes_then (line_of (109 ∷ 105 ∷ 110 ∷ 111 ∷ 114 ∷ 32 ∷ 52 ∷ []) refl refl)
    (goes_then (line_of (114 ∷ 101 ∷ 118 ∷ 105 ∷ 115 ∷ 105 ∷ 111 ∷ 110 ∷ 32 ∷ 49 ∷ []) refl refl) (line_of [] refl refl))))

-- ---- A section's head, where a section may begin that was not met yet
unfoldable pub may_leave : Place → Bool
may_leave Start = false
may_leave (Version due) = false
may_leave (Section lines) = true
may_leave (Extensions listed) = true
may_leave (Head id n) = false
may_leave Values = true
may_leave Signature = false

pub record Open (st : State) (k : ℕ) : Type 0 where
  pub leaves : may_leave st.place ≡ true
  pub has : has_section st.edition k ≡ true
  pub unseen : get_or st.seen k false ≡ false

left_at : (st : State) (k : ℕ) (p : Place) → may_leave p ≡ true → section_at st k p ≡ enter_of st k
unfolding may_leave section_at
left_at st k Start e = absurd (true≢false (sym e))
left_at st k (Version due) e = absurd (true≢false (sym e))
left_at st k (Section lines) e = refl
left_at st k (Extensions listed) e = refl
left_at st k (Head id n) e = absurd (true≢false (sym e))
left_at st k Values e = refl
left_at st k Signature e = absurd (true≢false (sym e))

pub head_step : (st : State) (n : ℕ) (line : List ℕ) (k : ℕ) → breaks_line line ≡ false → mark_of line ≡ SectionLine → section_no line ≡ k → Open st k
    → step_of st n line ≡ went_of (entered st k (place_in k))
unfolding step_of marked_step section_step enter_of may_enter
head_step st n line k b m e o = rw (b, m, e) (left_at st k st.place o.leaves ∙ rw (o.has, o.unseen))

-- the number of each form's section
abbrev pub head_number : Form → ℕ
head_number Block = 3
head_number Rf = 4
head_number Gradient = 5
head_number Trap = 6
head_number Adc = 7
head_number Delay = 10
head_number Entry = 0
head_number Trigger = 0

abbrev pub is_headed : Form → Bool
is_headed Block = true
is_headed Rf = true
is_headed Gradient = true
is_headed Trap = true
is_headed Adc = true
is_headed Delay = true
is_headed Entry = false
is_headed Trigger = false

abbrev pub in_rows : State → Form → State
in_rows st form = entered st (head_number form) (Section (Rows form))

pub head-line : (st : State) (n : ℕ) (line : List ℕ) (k : ℕ) → any_control line ≡ false → breaks_line line ≡ false → mark_of line ≡ SectionLine → section_no line ≡ k → Open st k
    → Goes st n (line ++ (10 ∷ [])) [] [] (entered st k (place_in k)) (suc n)
head-line st n line k c b m e o = line_of line c (head_step st n line k b m e o)

pub head-back : (st : State) (n : ℕ) (form : Form) → is_headed form ≡ true → Open st (head_number form) → Goes st n (head_text form) [] [] (in_rows st form) (suc n)
unfolding is_blank mark_of is_comment is_control any_control breaks_line blank_len body_len trimmed same_bytes place_from section_names section_no place_in
head-back st n Block h o = head-line st n (91 ∷ 66 ∷ 76 ∷ 79 ∷ 67 ∷ 75 ∷ 83 ∷ 93 ∷ []) 3 refl refl refl refl o
head-back st n Rf h o = head-line st n (91 ∷ 82 ∷ 70 ∷ 93 ∷ []) 4 refl refl refl refl o
head-back st n Gradient h o = head-line st n (91 ∷ 71 ∷ 82 ∷ 65 ∷ 68 ∷ 73 ∷ 69 ∷ 78 ∷ 84 ∷ 83 ∷ 93 ∷ []) 5 refl refl refl refl o
head-back st n Trap h o = head-line st n (91 ∷ 84 ∷ 82 ∷ 65 ∷ 80 ∷ 93 ∷ []) 6 refl refl refl refl o
head-back st n Adc h o = head-line st n (91 ∷ 65 ∷ 68 ∷ 67 ∷ 93 ∷ []) 7 refl refl refl refl o
head-back st n Delay h o = head-line st n (91 ∷ 68 ∷ 69 ∷ 76 ∷ 65 ∷ 89 ∷ 83 ∷ 93 ∷ []) 10 refl refl refl refl o
head-back st n Entry h o = absurd (true≢false (sym h))
head-back st n Trigger h o = absurd (true≢false (sym h))

-- ---- The blank line behind a section
pub blank-back : (st : State) (n : ℕ) (lines : Lines) → st.place ≡ Section lines → Goes st n (10 ∷ []) [] [] st (suc n)
unfolding any_control breaks_line is_comment mark_of blank_step marked_step step_of
blank-back st n lines p = line_of [] refl (rw p)

-- ---- Lines of rows: those of m rows from row k on that are among them, each with its line, the first being line n; and the number of the next line
unfoldable pub given_rows : (ℕ → Bool) → (ℕ → List ℤ) → ℕ → ℕ → ℕ → List Placed
given_rows is cells n k zero = []
given_rows is cells n k (suc m) = cond (is k) (record { line = n; cells = cells k } ∷ given_rows is cells (suc n) (suc k) m) (given_rows is cells n (suc k) m)

unfoldable pub line_behind : (ℕ → Bool) → ℕ → ℕ → ℕ → ℕ
line_behind is n k zero = n
line_behind is n k (suc m) = cond (is k) (line_behind is (suc n) (suc k) m) (line_behind is n (suc k) m)

pub given-none : (is : ℕ → Bool) (cells : ℕ → List ℤ) (n k m : ℕ) → ((j : ℕ) → k ≤ j → j < k + m → is j ≡ false) → given_rows is cells n k m ≡ []
unfolding given_rows
given-none is cells n k zero h = refl
given-none is cells n k (suc m) h = rw (h k (omega arith) (omega arith)) (given-none is cells n (suc k) m (λ j (a : suc k ≤ j) (b : j < suc k + m). h j (omega arith) (omega arith)))

-- the numbers of a row by the columns of its form
abbrev pub back_row : Edition → Form → List ℤ → List ℤ
back_row e form row = padded (form_number form) (own_of (columns_of e form) (drop 1 row))

abbrev pub InRangeOf : Edition → Form → List ℤ → Type 0
InRangeOf e form row = InRange (columns_of e form) (own_of (columns_of e form) (drop 1 row))

module _ (st : State) (form : Form) (p : st.place ≡ Section (Rows form)) (line : ℕ → List ℕ) (is : ℕ → Bool) (row : ℕ → List ℤ) (stop : ℕ)
    (same : (k : ℕ) → line k ≡ cond (is k) (line_text st.edition form (row k)) []) (small : (k : ℕ) → AllSmall (row k))
    (range : (k : ℕ) → k < stop → is k ≡ true → InRangeOf st.edition form (row k)) where
  one-back : (n k : ℕ) → k < stop → is k ≡ true → Goes st n (line k) (record { line = n; cells = back_row st.edition form (row k) } ∷ []) [] st (suc n)
  unfolding line_text
  one-back n k h e =
      rw (same k, e)
      (goes-row (row_text (columns_of st.edition form) (drop 1 (row k))) (plain-line _ (row_plain (columns_of st.edition form) (drop 1 (row k)))) n (back_row st.edition form (row k))
      (row-line-back st n form (row k) (range k h e) (small k) p))

  pub rows_back : (n k m : ℕ) → k + m ≤ stop
      → Goes st n (lines_text line k m) (given_rows is (λ j. back_row st.edition form (row j)) n k m) [] st (line_behind is n k m)
  unfolding lines_text given_rows line_behind
  rows_back n k zero h = goes_none
  rows_back n k (suc m) h = go (is k) refl (rows_back (suc n) (suc k) m (omega arith)) (rows_back n (suc k) m (omega arith))
    where
      back : ℕ → List ℤ
      back j = back_row st.edition form (row j)

      go : (b : Bool) → is k ≡ b → Goes st (suc n) (lines_text line (suc k) m) (given_rows is back (suc n) (suc k) m) [] st (line_behind is (suc n) (suc k) m)
          → Goes st n (lines_text line (suc k) m) (given_rows is back n (suc k) m) [] st (line_behind is n (suc k) m)
          → Goes st n (line k ++ lines_text line (suc k) m) (cond b (record { line = n; cells = back k } ∷ given_rows is back (suc n) (suc k) m) (given_rows is back n (suc k) m)) [] st
          (cond b (line_behind is (suc n) (suc k) m) (line_behind is n (suc k) m))
      go true e p q = goes_then (one-back n k (omega arith) e) p
      go false e p q = rw (same k, e) q

-- ---- A section: its head, its lines and a blank line; nothing where it has no rows
module _ (st : State) (form : Form) (h : is_headed form ≡ true) (o : Open st (head_number form)) (some : Bool) (line : ℕ → List ℕ) (is : ℕ → Bool) (row : ℕ → List ℤ) (stop : ℕ)
    (none : some ≡ false → (k : ℕ) → k < stop → is k ≡ false) (same : (k : ℕ) → line k ≡ cond (is k) (line_text st.edition form (row k)) [])
    (small : (k : ℕ) → AllSmall (row k)) (range : (k : ℕ) → k < stop → is k ≡ true → InRangeOf st.edition form (row k)) where
  pub rows-section : (n : ℕ)
      → Goes st n (section_of some (head_text form) (lines_text line 0 stop)) (given_rows is (λ k. back_row st.edition form (row k)) (suc n) 0 stop) [] (cond some (in_rows st form) st)
      (cond some (suc (line_behind is (suc n) 0 stop)) n)
  rows-section n = go some refl
    where
      go : (b : Bool) → some ≡ b
          → Goes st n (section_of b (head_text form) (lines_text line 0 stop)) (given_rows is (λ k. back_row st.edition form (row k)) (suc n) 0 stop) [] (cond b (in_rows st form) st)
          (cond b (suc (line_behind is (suc n) 0 stop)) n)
      go true e =
          rw (append-nil (given_rows is (λ k. back_row st.edition form (row k)) (suc n) 0 stop)) at
          (goes_then (head-back st n form h o)
          (goes_then (rows_back (in_rows st form) form refl line is row stop same small range (suc n) 0 stop (omega arith)) (blank-back (in_rows st form) (line_behind is (suc n) 0 stop) (Rows form) refl)))
      go false e = rw (given-none is (λ k. back_row st.edition form (row k)) (suc n) 0 stop (λ j a (b : j < 0 + stop). none e j (omega arith))) goes_none

-- none of n rows holds where the first that does is none of them
pub such-none-of : (is : ℕ → Bool) (n : ℕ) → ltb (first_such is 0 n) n ≡ false → (k : ℕ) → k < n → is k ≡ false
such-none-of is n e k h = let l = ltb-false (first_such is 0 n) n e in (first-is is 0 n).before k (omega arith) (omega arith)

-- ---- BLOCKS, RF, GRADIENTS, TRAP, ADC
pub section-back : (st : State) (n raster : ℕ) (form : Form) (rows : List ℤ) (count : ℕ) → is_headed form ≡ true → Open st (head_number form) → Small rows
    → ((k : ℕ) → k < count → is_of_form form rows k ≡ true → InRangeOf st.edition form (said_row st.edition raster rows count k))
    → Goes st n (section_text st.edition raster form rows count) (given_rows (is_of_form form rows) (λ k. back_row st.edition form (said_row st.edition raster rows count k)) (suc n) 0 count) []
    (cond (has_kind (pos (form_number form)) rows count) (in_rows st form) st)
    (cond (has_kind (pos (form_number form)) rows count) (suc (line_behind (is_of_form form rows) (suc n) 0 count)) n)
unfolding section_text row_line has_kind
section-back st n raster form rows count h o small range =
    rows-section st form h o (has_kind (pos (form_number form)) rows count) (row_line st.edition raster form rows count) (is_of_form form rows) (said_row st.edition raster rows count) count
    (λ e. such-none-of (is_of_form form rows) count e) (λ k. refl) (said-small rows small st.edition raster count) range n

-- ---- DELAYS of 1.3.1
uses-none : (rows : List ℤ) (n k m : ℕ) → uses_in rows n k m ≡ 0 → (j : ℕ) → k ≤ j → j < k + m → is_first rows n j ≡ false
unfolding uses_in use_count
uses-none rows n k zero e j a b = absurd (omega arith)
uses-none rows n k (suc m) e j a b = go (is_first rows n k) refl e (λ z l. uses-none rows n (suc k) m z j l (omega arith)) (eq-or-lt_of_le a)
  where
    go : (b : Bool) → is_first rows n k ≡ b → cond b 1 0 + uses_in rows n (suc k) m ≡ 0 → (uses_in rows n (suc k) m ≡ 0 → k < j → is_first rows n j ≡ false) → (k ≡ j) ⊎ (k < j) → is_first rows n j ≡ false
    go true f z r p = absurd (omega arith)
    go false f z r (inl q) = rw (← q) f
    go false f z r (inr l) = r (omega arith) l

pub uses-most : (rows : List ℤ) (n k m : ℕ) → uses_in rows n k m ≤ m
unfolding uses_in use_count
uses-most rows n k zero = omega arith
uses-most rows n k (suc m) = go (is_first rows n k) (uses-most rows n (suc k) m)
  where
    go : (b : Bool) → uses_in rows n (suc k) m ≤ m → cond b 1 0 + uses_in rows n (suc k) m ≤ suc m
    go true h = omega arith
    go false h = omega arith

pub micros-most : (rows : List ℤ) (k : ℕ) → micros_at rows k ≤ nanos_at rows k / 1000
unfolding micros_at whole_micros in_micros
micros-most rows k = go (eqb (nanos_at rows k % 1000) 0)
  where
    go : (b : Bool) → whole_micros (cond b (Some (record { 0 = nanos_at rows k / 1000 })) None) ≤ nanos_at rows k / 1000
    go true = omega arith
    go false = omega arith

module _ (rows : List ℤ) (count k : ℕ) (h : k < count) (f : is_first rows count k ≡ true) where
  pub first-number : delay_number rows count k ≡ suc (uses_in rows count 0 k)
  unfolding is_first delay_number
  first-number =
      let p = and_both (not (eqb (nanos_at rows k) 0)) (eqb (first_use rows count k) k) f in
      rw (not-true (eqb (nanos_at rows k) 0) p.0, eqb-true (first_use rows count k) k p.1, lt-ltb k count h)
    where
      not-true : (b : Bool) → not b ≡ true → b ≡ false
      not-true true e = sym e
      not-true false e = refl

  -- a first use is a block
  first_block : is_block rows k ≡ true
  unfolding is_first first_use is_alike
  first_block =
      let same = eqb-true (first_use rows count k) k (and_both (not (eqb (nanos_at rows k) 0)) (eqb (first_use rows count k) k) f).1 in
      (and_both (is_block rows k) (eqb (nanos_at rows k) (nanos_at rows k)) (rw same at ((first-is (is_alike rows k) 0 count).here (omega arith)))).0

  delay-range : count ≤ largest_id → nanos_at rows k ≤ 10 ^ 12 → (e : Edition) → InRangeOf e Delay (delay_row rows count k)
  unfolding columns_of own_of delay_row
  delay-range few long e =
      let u = uses-most rows count 0 k in
      let d = first-number in
      let m = micros-most rows k in
      one_number {k = Id} {n = min (delay_number rows count k) largest} refl (omega arith) (omega arith) (one_number {k = Micros} {n = min (micros_at rows k) largest} refl (omega arith) (omega arith) no_more)

pub delays-back : (st : State) (n : ℕ) (rows : List ℤ) (count : ℕ) → st.edition ≡ V13 → Open st 10 → count ≤ largest_id → ((k : ℕ) → k < count → is_block rows k ≡ true → nanos_at rows k ≤ 10 ^ 12)
    → Goes st n (delay_section rows count) (given_rows (is_first rows count) (λ k. back_row st.edition Delay (delay_row rows count k)) (suc n) 0 count) []
    (cond (has_delays rows count) (in_rows st Delay) st)
    (cond (has_delays rows count) (suc (line_behind (is_first rows count) (suc n) 0 count)) n)
unfolding delay_section delay_line has_delays
delays-back st n rows count v o few long =
    rows-section st Delay refl o (has_delays rows count) (delay_line rows count) (is_first rows count) (delay_row rows count) count
    (λ e k h. let l = ltb-false 0 (uses_in rows count 0 count) e in uses-none rows count 0 count (omega arith) k (omega arith) (omega arith))
    (λ k. rw v)
    (delay-row-small rows count)
    (λ k h e. delay-range rows count k h e few (long k h (first_block rows count k h e)) st.edition)
    n
