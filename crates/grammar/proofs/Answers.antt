-- What a step answers, by the answers of the code's tests and readings. Assumes nothing.
use Rattle.std.proofs.Common.{None, Option, Some}
use Prim.Native.Nat.{ℕ, ◌+◌, ◌-◌, ◌≤◌, ◌<◌, min}
use mathlib.Core.Bool.{Bool, true, false, cond}
use mathlib.Core.List.{List, [], ◌∷◌}
use mathlib.Core.Path.{◌≡◌, sym, ap, ◌∙◌}
use native.Mathlib.Omega.{arith}
use borrow.Author.Tests.{le-leb}
use lib.IntN.{ℤ, pos}
use lib.ListN.{length, get_or, replicate}
use Rattle.fields.specs.Fields.{fields_of}
use Rattle.text.specs.Marks.{mark_of, breaks_line}
use Rattle.text.specs.Words.{same_bytes}
use Rattle.signed.specs.Signed.{largest, signed_of}
use Rattle.numeral.specs.Integer.{largest_id}
use Rattle.numeral.proofs.Outcomes.{held-size}
use Rattle.columns.specs.Columns.{columns_of}
use Rattle.columns.specs.Rows.{padded}
use Rattle.rows.specs.Cells.{row_from, row_is}
use Rattle.columns.specs.declared.Form.{Form}
use Rattle.heads.specs.Heads.{label_of, extension_of, extension_word, word_number_of}
use Rattle.heads.specs.Heads.{Label, Extension}
use Rattle.heads.specs.declared.Label.{Label as LabelLine}
use Rattle.heads.specs.declared.Extension.{Extension as ExtensionLine}
use Rattle.heads.proofs.Ranges.{label-range, extension-range, word-range}
use Rattle.grammar.specs.Definitions.{value_of, is_definition}
use Rattle.places.specs.Places.{went_of, refused_of, moved_of}
use Rattle.grammar.specs.Steps.{defined_of, gave_of, definition_step, given_row, row_step, label_row, label_step, listed_of, extension_row, extension_step, is_extension, listed_step, extensions_step, shape_id_word, num_samples_word, head_row, head_step, counted_of, count_row, count_step, plain_step, marked_step, step_of}
use Rattle.places.specs.declared.Listed.{Listed}
use Rattle.places.specs.declared.Place.{Place}
use Rattle.places.specs.declared.Place.TheVariants.{Extensions, Head, Values}
use Rattle.places.specs.declared.State.{State}
use Rattle.places.specs.declared.Stepped.{Stepped}
use Rattle.places.specs.declared.Fault.TheVariants.{Line as LineFault, Field}
use Rattle.places.proofs.Answers.{told}

-- ---- a definition
module _ (st : State) (line : List ℕ) where
  pub defines-not : length (value_of line) ≡ 0 → refused_of st Field ≡ definition_step st line
  unfolding definition_step is_definition
  defines-not e = rw e

  pub defines : (length (value_of line) ≡ 0 → ⊥) → defined_of st ≡ definition_step st line
  unfolding definition_step is_definition
  defines n = rw (le-leb 1 (length (value_of line)) (omega arith))

-- ---- rows
module _ (st : State) (n : ℕ) (form : Form) (fields : List (List ℕ)) (row : (Option (List ℤ))) (p : row ≡ row_is form (row_from (columns_of st.edition form) fields)) where
  pub row-given : (cells : List ℤ) → row ≡ Some cells → gave_of st n cells ≡ row_step st n form fields
  unfolding row_step given_row
  row-given cells e = rw (← p, e)

  pub row-refused : row ≡ None → refused_of st Field ≡ row_step st n form fields
  unfolding row_step given_row
  row-refused e = rw (← p, e)

-- a number as a row holds it
held : (n : ℕ) (z : ℤ) → n ≤ largest → z ≡ signed_of false (min n largest) → z ≡ pos n
unfolding signed_of
held n z h e = e ∙ held-size false n h

-- numbers of a row behind its kind, and zeros behind them
abbrev pub four : ℤ → ℤ → ℤ → ℤ → ℤ → List ℤ
four kind a b c d = kind ∷ a ∷ b ∷ c ∷ d ∷ replicate 7 (pos 0)

module _ (st : State) (n : ℕ) (increment : Bool) (fields : List (List ℕ)) (h : Option LabelLine) (p : h ≡ label_of st.edition increment fields) where
  pub label-gave : (id : ℕ) (v : ℤ) (label : ℕ) → h ≡ Label id v label → (a b y d : ℤ) → a ≡ signed_of false (min id largest) → b ≡ pos (cond increment 1 0) → y ≡ v
      → d ≡ signed_of false (min label largest) → gave_of st n (four (pos 10) a b y d) ≡ label_step st n increment fields
  unfolding label_step label_row padded
  label-gave id v label e a b y d i j k l =
      let r = label-range st.edition increment fields id v label (sym p ∙ e) in
      rw (← p, e, held id a (omega (arith, r.1)) i, j, k, held label d (omega (arith, r.4)) l)

  pub label-bad : h ≡ None → refused_of st Field ≡ label_step st n increment fields
  unfolding label_step label_row
  label-bad e = rw (← p, e)

module _ (st : State) (n : ℕ) (fields : List (List ℕ)) (h : Option ExtensionLine) (p : h ≡ extension_of fields) where
  pub extension-gave : (type code : ℕ) → h ≡ Extension type code → (next : State) → next ≡ moved_of st (Extensions (listed_of code)) → (a b : ℤ)
      → a ≡ signed_of false (min type largest) → b ≡ signed_of false (min code largest) → gave_of next n (four (pos 8) a b (pos 0) (pos 0)) ≡ extension_step st n fields
  unfolding extension_step extension_row padded
  extension-gave type code e next q a b i j =
      let r = extension-range fields type code (sym p ∙ e) in
      rw (← p, e, q, held type a (omega (arith, r.1)) i, held code b (omega (arith, r.2)) j)

  pub extension-bad : h ≡ None → refused_of st Field ≡ extension_step st n fields
  unfolding extension_step extension_row
  extension-bad e = rw (← p, e)

-- ---- a line of EXTENSIONS
module _ (st : State) (n : ℕ) (fields : List (List ℕ)) (listed : Listed) where
  pub names-extension : same_bytes (get_or fields 0 []) extension_word ≡ true → extension_step st n fields ≡ extensions_step st n fields listed
  unfolding extensions_step is_extension
  names-extension e = rw e

  pub names-none : same_bytes (get_or fields 0 []) extension_word ≡ false → listed_step st n fields listed ≡ extensions_step st n fields listed
  unfolding extensions_step is_extension
  names-none e = rw e

-- ---- the head of a shape
module _ (st : State) (n : ℕ) (fields : List (List ℕ)) (v : (Option ℕ)) (p : v ≡ word_number_of shape_id_word 1 largest_id fields) where
  pub head-went : (id : ℕ) → v ≡ Some id → (a : ℤ) → a ≡ signed_of false (min id largest) → (next : State) → next ≡ moved_of st (Head a n) → went_of next ≡ head_step st n fields
  unfolding head_step head_row
  head-went id e a i next q =
      let r = word-range shape_id_word 1 largest_id fields id (sym p ∙ e) in
      rw (← p, e, q, held id a (omega (arith, r.1)) i)

  pub head-bad : v ≡ None → refused_of st Field ≡ head_step st n fields
  unfolding head_step head_row
  head-bad e = rw (← p, e)

module _ (st : State) (id : ℤ) (n : ℕ) (fields : List (List ℕ)) (v : (Option ℕ)) (p : v ≡ word_number_of num_samples_word 1 1000000 fields) where
  pub count_small : (num : ℕ) → v ≡ Some num → num ≤ 1000000
  count_small num e = (word-range num_samples_word 1 1000000 fields num (sym p ∙ e)).1

  pub count-gave : (num : ℕ) → v ≡ Some num → (next : State) → next ≡ counted_of st num → (y a b : ℤ) → y ≡ id → a ≡ signed_of false (min num largest)
      → b ≡ signed_of false (min st.samples largest) → gave_of next n (four (pos 11) y a b (pos 0)) ≡ count_step st id n fields
  unfolding count_step count_row padded signed_of
  count-gave num e next q y a b h i j = let m = count_small num e in rw (← p, e, q, h, held num a (omega arith) i, j)

  pub count-bad : v ≡ None → refused_of st Field ≡ count_step st id n fields
  unfolding count_step count_row
  count-bad e = rw (← p, e)

-- how many samples there are behind a shape
module _ (st : State) (num : ℕ) where
  unfoldable counted-to : ℕ → State
  counted-to samples = record { place = Values; edition = st.edition; seen = st.seen; samples = samples }

  pub counted-more : st.samples < largest - num → record { place = Values; edition = st.edition; seen = st.seen; samples = st.samples + num } ≡ counted_of st num
  unfolding counted_of counted-to
  counted-more h = ap counted-to (let e : st.samples + num ≡ min (st.samples + num) largest = omega arith in e)

  pub counted-most : num ≤ largest → largest - num ≤ st.samples → record { place = Values; edition = st.edition; seen = st.seen; samples = largest } ≡ counted_of st num
  unfolding counted_of counted-to
  counted-most m h = ap counted-to (let e : largest ≡ min (st.samples + num) largest = omega arith in e)

-- ---- a line
module _ (st : State) (n : ℕ) (line : List ℕ) where
  pub line-broken : breaks_line line ≡ true → refused_of st LineFault ≡ step_of st n line
  unfolding step_of
  line-broken e = rw e

  pub line_marked : breaks_line line ≡ false → marked_step st n line (mark_of line) ≡ step_of st n line
  unfolding step_of
  line_marked e = rw e

-- the second line of a shape, in the place behind its first
pub count-told : (st : State) (n : ℕ) (line : List ℕ) (id z : ℤ) (m : ℕ) (place : Place) (r : Stepped) → r ≡ count_step st z m (fields_of line) → z ≡ id → place ≡ Head id m
    → r ≡ plain_step st n line place
unfolding plain_step
count-told st n line id z m place r p e q = told (plain_step st n line) (p ∙ ap (λ (x : ℤ). count_step st x m (fields_of line)) e) q
