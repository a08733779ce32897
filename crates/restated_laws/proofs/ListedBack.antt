-- The lines of EXTENSIONS, as a text is restated, read back one by one. Assumes nothing.
use Rattle.std.proofs.Common.{Some}
use Prim.Native.Nat.{ℕ, zero, suc, ◌^◌, ◌≤◌, ◌<◌}
use mathlib.Core.Bool.{Bool, true, false, cond}
use mathlib.Core.List.{List, [], ◌∷◌, append-nil}
use mathlib.Core.Path.{◌≡◌, refl, ap, ◌∙◌}
use native.Mathlib.Omega.{arith}
use borrow.Author.Tests.{ne_eqb}
use lib.IntN.{ℤ, pos, nat_abs}
use lib.ListN.{length, get_or, drop, set}
use Rattle.text.specs.Marks.{is_blank, is_control, any_control, mark_of, is_comment, breaks_line}
use Rattle.text.specs.Blanks.{blank_len}
use Rattle.text.specs.declared.Mark.TheVariants.{Plain}
use Rattle.text.specs.Words.{same_bytes, place_from, place_of}
use Rattle.text.proofs.Cases.{and_both}
use Rattle.text.proofs.Words.{same_refl}
use Rattle.fields.specs.Fields.{fields_of, spaced, joined, body_len, trimmed}
use Rattle.fields.proofs.Fields.{none_left, one_more, fields-joined}
use Rattle.fields.proofs.Visible.{is_visible, all_visible, visible-word}
use Rattle.numeral.specs.Digits.{is_digit, all_digits}
use Rattle.numeral.specs.Integer.{largest_id, integer_of}
use Rattle.numeral.proofs.Digits.{digit-most}
use Rattle.signed.specs.Signed.{is_negative}
use Rattle.print.specs.Printed.{digits_of, number_text, signed_text}
use Rattle.print.proofs.Digits.{digits-all}
use Rattle.print.proofs.Back.{integer-back}
use Rattle.print.proofs.Naturals.{natural-text}
use Rattle.print.proofs.Figures.{signed-visible, signed-some}
use Rattle.shape.specs.declared.Edition.{Edition}
use Rattle.shape_text.proofs.Figures.{number-mark}
use Rattle.columns.specs.Columns.{columns_of, form_number, extension_kind, label_kind}
use Rattle.columns.specs.Rows.{padded}
use Rattle.columns.specs.declared.Form.{Form}
use Rattle.columns.specs.declared.Form.TheVariants.{Entry, Trigger}
use Rattle.row_text.specs.Printed.{field_text, texts_of, row_text}
use Rattle.row_text.proofs.Back.{fields-row}
use Rattle.heads.specs.Heads.{label_names, label_value, label_head, label_fields, label_of, is_name_byte, all_name_bytes, is_name, extension_names, extension_word, extension_head, extension_fields, extension_of}
use Rattle.tables.specs.Tables.{number_at}
use Rattle.sections.specs.Sections.{section_names, section_no, place_in}
use Rattle.sections.specs.Entering.{entered}
use Rattle.places.specs.Places.{moved_of}
use Rattle.places.specs.declared.Listed.{Listed}
use Rattle.places.specs.declared.Listed.TheVariants.{Entries, Triggers, Labels}
use Rattle.places.specs.declared.Place.TheVariants.{Extensions}
use Rattle.places.specs.declared.State.{State}
use Rattle.grammar.specs.Steps.{blank_step, row_step, marked_step, label_row, label_step, listed_of, extension_row, extension_step, is_extension, listed_step, extensions_step, plain_step, step_of}
use Rattle.file.specs.Rows.{Placed}
use Rattle.sayable.specs.Sayable.{is_kind}
use Rattle.said.specs.Said.{numbers_at, line_text, lines_text}
use Rattle.said.proofs.Short.{AllSmall, Small, row-length, signed-short, numbers-small}
use Rattle.extension_text.specs.Extensions.{word_at, three_words, extension_line, label_line, listed_line, has_listed, extensions_head, extension_section}
use Rattle.restated_laws.proofs.Sections.{three-length}
use Rattle.restated_laws.proofs.Going.{Goes, goes_none, goes_then, goes-row}
use Rattle.restated_laws.proofs.RowBack.{plain-line, spaced-plain, joined-plain, row_plain, row-mark, plain_step_lem, row-step-back}
use Rattle.restated_laws.proofs.SectionBack.{line_of, Open, head-line, InRangeOf, back_row}

-- ---- A number is not the word `extension`
digits-other : (s : List ℕ) → all_digits s ≡ true → same_bytes s extension_word ≡ false
unfolding all_digits extension_word same_bytes
digits-other [] a = refl
digits-other (b ∷ s) a = let m = digit-most b (and_both (is_digit b) (all_digits s) a).0 in rw (ne_eqb b 101 (λ (e : b ≡ 101). omega arith))

number-other : (negative : Bool) (n : ℕ) → same_bytes (number_text negative n) extension_word ≡ false
number-other true n = unfold number_text extension_word same_bytes in refl
number-other false n = unfold number_text in digits-other (digits_of n) (digits-all n)

signed-other : (z : ℤ) → same_bytes (signed_text z) extension_word ≡ false
unfolding signed_text
signed-other z = number-other (is_negative z) (nat_abs z)

-- ---- Three words in a line
record Shown (w : List ℕ) : Type 0 where
  visible : all_visible w ≡ true
  some : 1 ≤ length w
  few : length w ≤ 20

signed-shown : (z : ℤ) → nat_abs z ≤ 2 ^ 63 → Shown (signed_text z)
signed-shown z h = record { visible = signed-visible z; some = signed-some z; few = signed-short z h }

module _ (a b c : List ℕ) (p : Shown a) (q : Shown b) (r : Shown c) where
  three-fields : fields_of (joined (a ∷ b ∷ c ∷ [])) ≡ a ∷ b ∷ c ∷ []
  three-fields =
      fields-joined (one_more (visible-word a p.some p.visible) (one_more (visible-word b q.some q.visible) (one_more (visible-word c r.some r.visible) none_left)))

  three-plain : any_control (joined (a ∷ b ∷ c ∷ [])) ≡ false
  three-plain =
      joined-plain (a ∷ b ∷ c ∷ []) (spaced-plain a (b ∷ c ∷ []) p.visible (spaced-plain b (c ∷ []) q.visible (spaced-plain c [] r.visible (unfold spaced any_control in refl))))

  three-step : (st : State) (n : ℕ) (listed : Listed) → st.place ≡ Extensions listed → mark_of (joined (a ∷ b ∷ c ∷ [])) ≡ Plain
      → step_of st n (joined (a ∷ b ∷ c ∷ [])) ≡ extensions_step st n (a ∷ b ∷ c ∷ []) listed
  three-step st n listed e m =
      plain_step_lem st n (joined (a ∷ b ∷ c ∷ [])) (three-length a b c p.few q.few r.few) three-plain m
      ∙ ap (plain_step st n (joined (a ∷ b ∷ c ∷ []))) e
      ∙ (unfold plain_step in ap (λ (fs : List (List ℕ)). extensions_step st n fs listed) three-fields)

-- ---- "`extension NAME type`"
record Extension (code : ℕ) : Type 0 where
  shown : Shown (word_at extension_names code)
  named : is_name (word_at extension_names code) ≡ true
  place : place_of extension_names (word_at extension_names code) ≡ code

extension-named : (code : ℕ) → 1 ≤ code → code ≤ 3 → Extension code
unfolding word_at extension_names all_visible is_visible is_name all_name_bytes is_name_byte place_from same_bytes
extension-named zero h k = absurd (omega arith)
extension-named (suc zero) h k = record { shown = record { visible = refl; some = omega arith; few = omega arith }; named = refl; place = refl }
extension-named (suc (suc zero)) h k = record { shown = record { visible = refl; some = omega arith; few = omega arith }; named = refl; place = refl }
extension-named (suc (suc (suc zero))) h k = record { shown = record { visible = refl; some = omega arith; few = omega arith }; named = refl; place = refl }
extension-named (suc (suc (suc (suc c)))) h k = absurd (omega arith)

word-shown : Shown extension_word
unfolding extension_word all_visible is_visible
word-shown = record { visible = refl; some = omega arith; few = omega arith }

word-mark : (b c : List ℕ) → mark_of (joined (extension_word ∷ b ∷ c ∷ [])) ≡ Plain
unfolding joined extension_word mark_of is_blank
word-mark b c = refl

pub integer-text : (low high n : ℕ) → n < 10 ^ 10 → low ≤ n → n ≤ high → integer_of low high (signed_text (pos n)) ≡ Some n
integer-text low high n h l m = ap (integer_of low high) (natural-text n) ∙ integer-back low high n h l m

module _ (st : State) (n : ℕ) (rows : List ℤ) (k : ℕ) where
  pub extension-back : (listed : Listed) → st.place ≡ Extensions listed → (type code : ℕ) → number_at rows k 1 ≡ pos type → number_at rows k 2 ≡ pos code → 1 ≤ type → type ≤ largest_id → 1 ≤ code
      → code ≤ 3 → Goes st n (extension_line rows k) (record { line = n; cells = padded extension_kind (pos type ∷ pos code ∷ []) } ∷ []) [] (moved_of st (Extensions (listed_of code))) (suc n)
  unfolding extension_line three_words
  extension-back listed e type code t c l m a b =
      let x = extension-named code a b in
      let s = signed-shown (pos type) (omega arith) in
      rw (t, c)
      (goes-row (joined (extension_word ∷ word_at extension_names code ∷ signed_text (pos type) ∷ [])) (plain-line _ (three-plain extension_word (word_at extension_names code) (signed_text (pos type)) word-shown x.shown s)) n _
      (three-step extension_word (word_at extension_names code) (signed_text (pos type)) word-shown x.shown s st n listed e (word-mark _ _)
      ∙ (unfold extensions_step is_extension extension_step extension_of extension_fields extension_head extension_row in
      rw (same_refl extension_word, x.named, integer-text 1 largest_id type (omega arith) l m, x.place))))

-- ---- "id, value, label"
record Labelled (label : ℕ) : Type 0 where
  shown : Shown (word_at label_names label)
  place : place_of label_names (word_at label_names label) ≡ label

label-named : (label : ℕ) → 1 ≤ label → label ≤ 13 → Labelled label
unfolding word_at label_names all_visible is_visible place_from same_bytes
label-named zero h k = absurd (omega arith)
label-named (suc zero) h k = record { shown = record { visible = refl; some = omega arith; few = omega arith }; place = refl }
label-named (suc (suc zero)) h k = record { shown = record { visible = refl; some = omega arith; few = omega arith }; place = refl }
label-named (suc (suc (suc zero))) h k = record { shown = record { visible = refl; some = omega arith; few = omega arith }; place = refl }
label-named (suc (suc (suc (suc zero)))) h k = record { shown = record { visible = refl; some = omega arith; few = omega arith }; place = refl }
label-named (suc (suc (suc (suc (suc zero))))) h k = record { shown = record { visible = refl; some = omega arith; few = omega arith }; place = refl }
label-named (suc (suc (suc (suc (suc (suc zero)))))) h k = record { shown = record { visible = refl; some = omega arith; few = omega arith }; place = refl }
label-named (suc (suc (suc (suc (suc (suc (suc zero))))))) h k = record { shown = record { visible = refl; some = omega arith; few = omega arith }; place = refl }
label-named (suc (suc (suc (suc (suc (suc (suc (suc zero)))))))) h k = record { shown = record { visible = refl; some = omega arith; few = omega arith }; place = refl }
label-named (suc (suc (suc (suc (suc (suc (suc (suc (suc zero))))))))) h k = record { shown = record { visible = refl; some = omega arith; few = omega arith }; place = refl }
label-named (suc (suc (suc (suc (suc (suc (suc (suc (suc (suc zero)))))))))) h k = record { shown = record { visible = refl; some = omega arith; few = omega arith }; place = refl }
label-named (suc (suc (suc (suc (suc (suc (suc (suc (suc (suc (suc zero))))))))))) h k = record { shown = record { visible = refl; some = omega arith; few = omega arith }; place = refl }
label-named (suc (suc (suc (suc (suc (suc (suc (suc (suc (suc (suc (suc zero)))))))))))) h k = record { shown = record { visible = refl; some = omega arith; few = omega arith }; place = refl }
label-named (suc (suc (suc (suc (suc (suc (suc (suc (suc (suc (suc (suc (suc zero))))))))))))) h k = record { shown = record { visible = refl; some = omega arith; few = omega arith }; place = refl }
label-named (suc (suc (suc (suc (suc (suc (suc (suc (suc (suc (suc (suc (suc (suc l)))))))))))))) h k = absurd (omega arith)

number-first : (z : ℤ) (b c : List ℕ) → mark_of (joined (signed_text z ∷ b ∷ c ∷ [])) ≡ Plain
unfolding joined signed_text
number-first z b c = number-mark (is_negative z) (nat_abs z) _

module _ (st : State) (n : ℕ) (rows : List ℤ) (k : ℕ) where
  pub label-back : (increment : Bool) → st.place ≡ Extensions (Labels increment) → (id label : ℕ) (v : ℤ) → number_at rows k 1 ≡ pos id → number_at rows k 3 ≡ v → number_at rows k 4 ≡ pos label
      → 1 ≤ id → id ≤ largest_id → nat_abs v ≤ largest_id → 1 ≤ label → label ≤ 13 → label_value st.edition increment label (signed_text v) ≡ Some v
      → Goes st n (label_line rows k) (record { line = n; cells = padded label_kind (pos id ∷ pos (cond increment 1 0) ∷ v ∷ pos label ∷ []) } ∷ []) [] st (suc n)
  unfolding label_line three_words
  label-back increment e id label v i w j a b g c d value =
      let x = label-named label c d in
      let s = signed-shown (pos id) (omega arith) in
      let u = signed-shown v (omega arith) in
      rw (i, w, j)
      (goes-row (joined (signed_text (pos id) ∷ signed_text v ∷ word_at label_names label ∷ [])) (plain-line _ (three-plain (signed_text (pos id)) (signed_text v) (word_at label_names label) s u x.shown)) n _
      (three-step (signed_text (pos id)) (signed_text v) (word_at label_names label) s u x.shown st n (Labels increment) e (number-first (pos id) _ _)
      ∙ (unfold extensions_step is_extension listed_step label_step label_of label_fields label_head label_row in
      rw (signed-other (pos id), x.place, integer-text 1 largest_id id (omega arith) a b, value))))

-- ---- Entries and triggers, by their columns
abbrev pub listed_form : Form → Listed → Type 0
listed_form form listed = (st : State) (n : ℕ) (fields : List (List ℕ)) → listed_step st n fields listed ≡ row_step st n form fields

entries-listed : listed_form Entry Entries
unfolding listed_step
entries-listed st n fields = refl

triggers-listed : listed_form Trigger Triggers
unfolding listed_step
triggers-listed st n fields = refl

entry_first : (e : Edition) (vs : List ℤ) → is_extension (texts_of (columns_of e Entry) vs) ≡ false
unfolding is_extension columns_of texts_of field_text
entry_first e vs = signed-other (get_or vs 0 (pos 0))

trigger-first : (e : Edition) (vs : List ℤ) → is_extension (texts_of (columns_of e Trigger) vs) ≡ false
unfolding is_extension columns_of texts_of field_text
trigger-first e vs = signed-other (get_or vs 0 (pos 0))

listed-step : (st : State) (n : ℕ) (line : List ℕ) (form : Form) (listed : Listed) → listed_form form listed → is_extension (fields_of line) ≡ false
    → plain_step st n line (Extensions listed) ≡ row_step st n form (fields_of line)
unfolding plain_step extensions_step
listed-step st n line form listed f x = rw x (f st n (fields_of line))

module _ (st : State) (n : ℕ) (row : List ℤ) (small : AllSmall row) where
  listed_back : (form : Form) (listed : Listed) → listed_form form listed → is_extension (texts_of (columns_of st.edition form) (drop 1 row)) ≡ false → st.place ≡ Extensions listed
      → InRangeOf st.edition form row → Goes st n (line_text st.edition form row) (record { line = n; cells = back_row st.edition form row } ∷ []) [] st (suc n)
  unfolding line_text
  listed_back form listed f x p r =
      let ks = columns_of st.edition form in
      let t = row_text ks (drop 1 row) in
      goes-row t (plain-line t (row_plain ks (drop 1 row))) n (back_row st.edition form row)
      (plain_step_lem st n t (row-length st.edition form row small) (row_plain ks (drop 1 row)) (row-mark st.edition form (drop 1 row))
      ∙ ap (plain_step st n t) p
      ∙ listed-step st n t form listed f (ap is_extension (fields-row ks (drop 1 row)) ∙ x)
      ∙ row-step-back st n form row r)

  pub entry-back : st.place ≡ Extensions Entries → InRangeOf st.edition Entry row
      → Goes st n (line_text st.edition Entry row) (record { line = n; cells = back_row st.edition Entry row } ∷ []) [] st (suc n)
  entry-back p r = listed_back Entry Entries entries-listed (entry_first st.edition (drop 1 row)) p r

  pub trigger-back : st.place ≡ Extensions Triggers → InRangeOf st.edition Trigger row
      → Goes st n (line_text st.edition Trigger row) (record { line = n; cells = back_row st.edition Trigger row } ∷ []) [] st (suc n)
  trigger-back p r = listed_back Trigger Triggers triggers-listed (trigger-first st.edition (drop 1 row)) p r

-- ---- The head of the section, and the blank line behind it
pub extensions-head-back : (st : State) (n : ℕ) → Open st 8 → Goes st n extensions_head [] [] (entered st 8 (Extensions Entries)) (suc n)
unfolding is_blank mark_of is_comment is_control any_control breaks_line blank_len body_len trimmed same_bytes place_from section_names section_no place_in
extensions-head-back st n o = head-line st n (91 ∷ 69 ∷ 88 ∷ 84 ∷ 69 ∷ 78 ∷ 83 ∷ 73 ∷ 79 ∷ 78 ∷ 83 ∷ 93 ∷ []) 8 refl refl refl refl o

pub extensions-blank-back : (st : State) (n : ℕ) (listed : Listed) → st.place ≡ Extensions listed → Goes st n (10 ∷ []) [] [] st (suc n)
unfolding any_control breaks_line is_comment mark_of blank_step marked_step step_of
extensions-blank-back st n listed p = line_of [] refl (rw p)

-- ---- The section. Rows that may stand in it one after another, in this order: m rows from row k on, read where `listed` is; the rows that they give,
-- from line n on, where reading is then, and the number of the next line
pub data Listing (e : Edition) (rows : List ℤ) : Listed → ℕ → ℕ → ℕ → List Placed → Listed → ℕ → Type 0 where
  list-end : {listed : Listed} {n k : ℕ} → Listing e rows listed n k 0 [] listed n
  list-other : {listed last : Listed} {n k m end : ℕ} {rs : List Placed} → is_kind rows k (pos (form_number Entry)) ≡ false → is_kind rows k (pos extension_kind) ≡ false
      → is_kind rows k (pos (form_number Trigger)) ≡ false → is_kind rows k (pos label_kind) ≡ false → Listing e rows listed n (suc k) m rs last end → Listing e rows listed n k (suc m) rs last end
  list-entry : {last : Listed} {n k m end : ℕ} {rs : List Placed} → is_kind rows k (pos (form_number Entry)) ≡ true → InRangeOf e Entry (numbers_at rows k)
      → Listing e rows Entries (suc n) (suc k) m rs last end → Listing e rows Entries n k (suc m) (record { line = n; cells = back_row e Entry (numbers_at rows k) } ∷ rs) last end
  list-extension : {listed last : Listed} {n k m end : ℕ} {rs : List Placed} (type code : ℕ) → is_kind rows k (pos (form_number Entry)) ≡ false → is_kind rows k (pos extension_kind) ≡ true
      → number_at rows k 1 ≡ pos type → number_at rows k 2 ≡ pos code → 1 ≤ type → type ≤ largest_id → 1 ≤ code → code ≤ 3 → Listing e rows (listed_of code) (suc n) (suc k) m rs last end
      → Listing e rows listed n k (suc m) (record { line = n; cells = padded extension_kind (pos type ∷ pos code ∷ []) } ∷ rs) last end
  list-trigger : {last : Listed} {n k m end : ℕ} {rs : List Placed} → is_kind rows k (pos (form_number Entry)) ≡ false → is_kind rows k (pos extension_kind) ≡ false
      → is_kind rows k (pos (form_number Trigger)) ≡ true → InRangeOf e Trigger (numbers_at rows k) → Listing e rows Triggers (suc n) (suc k) m rs last end
      → Listing e rows Triggers n k (suc m) (record { line = n; cells = back_row e Trigger (numbers_at rows k) } ∷ rs) last end
  list-label : {last : Listed} {n k m end : ℕ} {rs : List Placed} (increment : Bool) (id label : ℕ) (v : ℤ) → is_kind rows k (pos (form_number Entry)) ≡ false → is_kind rows k (pos extension_kind) ≡ false
      → is_kind rows k (pos (form_number Trigger)) ≡ false → is_kind rows k (pos label_kind) ≡ true → number_at rows k 1 ≡ pos id → number_at rows k 2 ≡ pos (cond increment 1 0) → number_at rows k 3 ≡ v → number_at rows k 4 ≡ pos label → 1 ≤ id
      → id ≤ largest_id → nat_abs v ≤ largest_id → 1 ≤ label → label ≤ 13 → label_value e increment label (signed_text v) ≡ Some v → Listing e rows (Labels increment) (suc n) (suc k) m rs last end
      → Listing e rows (Labels increment) n k (suc m) (record { line = n; cells = padded label_kind (pos id ∷ pos (cond increment 1 0) ∷ v ∷ pos label ∷ []) } ∷ rs) last end

abbrev pub listed_at : Edition → List Bool → ℕ → Listed → State
listed_at e seen samples listed = record { place = Extensions listed; edition = e; seen = seen; samples = samples }

pub listed-lines-back : (e : Edition) (rows : List ℤ) → Small rows → (seen : List Bool) (samples : ℕ) {listed last : Listed} {n k m end : ℕ} {rs : List Placed} → Listing e rows listed n k m rs last end
    → Goes (listed_at e seen samples listed) n (lines_text (listed_line e rows) k m) rs [] (listed_at e seen samples last) end
unfolding lines_text listed_line
listed-lines-back e rows small seen samples list-end = goes_none
listed-lines-back e rows small seen samples (list-other a b c d x) = rw (a, b, c, d) (listed-lines-back e rows small seen samples x)
listed-lines-back e rows small seen samples (list-entry {n = n} {k = k} a r x) =
    rw a (goes_then (entry-back (listed_at e seen samples Entries) n (numbers_at rows k) (numbers-small rows small k) refl r) (listed-lines-back e rows small seen samples x))
listed-lines-back e rows small seen samples (list-extension {listed = listed} {n = n} {k = k} type code a b t c l m o h x) =
    rw (a, b) (goes_then (extension-back (listed_at e seen samples listed) n rows k listed refl type code t c l m o h) (listed-lines-back e rows small seen samples x))
listed-lines-back e rows small seen samples (list-trigger {n = n} {k = k} a b c r x) =
    rw (a, b, c) (goes_then (trigger-back (listed_at e seen samples Triggers) n (numbers_at rows k) (numbers-small rows small k) refl r) (listed-lines-back e rows small seen samples x))
listed-lines-back e rows small seen samples (list-label {n = n} {k = k} increment id label v a b c d i f w j l m g o h value x) =
    rw (a, b, c, d)
    (goes_then (label-back (listed_at e seen samples (Labels increment)) n rows k increment refl id label v i w j l m g o h value) (listed-lines-back e rows small seen samples x))

-- with its head and its blank line
pub extensions-back : (st : State) (n : ℕ) (rows : List ℤ) (count : ℕ) → Open st 8 → Small rows → has_listed rows count ≡ true → {last : Listed} {end : ℕ} {rs : List Placed}
    → Listing st.edition rows Entries (suc n) 0 count rs last end
    → Goes st n (extension_section st.edition rows count) rs [] (listed_at st.edition (set st.seen 8 true) st.samples last) (suc end)
unfolding extension_section
extensions-back st n rows count o small h {last} {end} {rs} x =
    rw (h)
    (rw (append-nil rs) at
    (goes_then (extensions-head-back st n o)
    (goes_then (listed-lines-back st.edition rows small (set st.seen 8 true) st.samples x)
    (extensions-blank-back (listed_at st.edition (set st.seen 8 true) st.samples last) end last refl))))

-- without rows it is not there
pub no-extensions-back : (st : State) (n : ℕ) (target : Edition) (rows : List ℤ) (count : ℕ) → has_listed rows count ≡ false → Goes st n (extension_section target rows count) [] [] st n
unfolding extension_section
no-extensions-back st n target rows count h = rw h goes_none
