-- SHAPES, as a text is restated, reads back: each shape's row, at the place where the samples before it end. Assumes nothing.
use Rattle.std.proofs.Common.{Some}
use Prim.Native.Nat.{ℕ, zero, suc, ◌+◌, min, ◌≤◌, ◌<◌}
use mathlib.Core.Bool.{Bool, cond, true, false}
use mathlib.Core.List.{List, [], ◌∷◌, ◌++◌, append_assoc, map}
use mathlib.Core.Path.{◌≡◌, refl, ap, ◌∙◌}
use native.Mathlib.Omega.{arith}
use lib.IntN.{ℤ, pos, nat_abs}
use lib.ListN.{length, length-append}
use Rattle.text.specs.Marks.{is_blank, is_control, any_control, mark_of, is_comment, breaks_line}
use Rattle.text.specs.declared.Mark.{Mark}
use Rattle.text.specs.declared.Mark.TheVariants.{Blank, Comment, Section as SectionLine, Plain}
use Rattle.text.specs.Blanks.{blank_len}
use Rattle.text.specs.Words.{same_bytes, place_from}
use Rattle.text.proofs.Lines.{OneLine}
use Rattle.text.proofs.Words.{same_refl}
use Rattle.fields.specs.Fields.{fields_of, body_len, trimmed}
use Rattle.fields.proofs.Fields.{fields-word, fields-last}
use Rattle.fields.proofs.Visible.{is_visible, all_visible, visible_plain, visible-word, visible-line}
use Rattle.signed.specs.Signed.{largest}
use Rattle.numeral.specs.Integer.{largest_id}
use Rattle.print.specs.Printed.{signed_text}
use Rattle.print.proofs.Figures.{signed-visible, signed_word}
use Rattle.numeral.specs.declared.Decimal.{Decimal}
use Rattle.print.proofs.Back.{sample_of}
use Rattle.shape.specs.Stored.{mark_item, item_of}
use Rattle.shape.specs.declared.Item.TheVariants.{Value, Bad as ItemBad}
use Rattle.shape.specs.declared.Edition.{Edition}
use Rattle.shape_text.specs.Written.{differences_from, runs_of, packed_lines, plain_lines, is_plain_text, stored_lines, ended_lines, text_of, all_within, stored_text}
use Rattle.shape_text.proofs.Reread.{HoldAll, no_line, a-line}
use Rattle.shape_text.proofs.Longest.{within_all, differences-all, differences-length, runs-longest, runs_values, runs-hold, plain-hold}
use Rattle.columns.specs.Columns.{shape_kind, most_of}
use Rattle.columns.specs.Rows.{padded}
use Rattle.columns.specs.declared.Kind.TheVariants.{Count}
use Rattle.heads.specs.Heads.{word_number_of}
use Rattle.sections.specs.Sections.{section_names, section_no, place_in}
use Rattle.sections.specs.Entering.{entered}
use Rattle.places.specs.Places.{went_of, refused_of, moved_of}
use Rattle.places.specs.declared.Fault.TheVariants.{Line as LineFault}
use Rattle.tables.specs.Tables.{number_at, samples_at}
use Rattle.places.specs.declared.Lines.TheVariants.{Shapes}
use Rattle.places.specs.declared.Place.TheVariants.{Section, Head, Values}
use Rattle.places.specs.declared.State.{State}
use Rattle.grammar.specs.Steps.{gave_of, blank_step, shape_id_word, num_samples_word, head_row, head_step, counted_of, count_row, count_step, value_row, lines_step, plain_step, marked_step, step_of}
use Rattle.file.specs.Rows.{Placed}
use Rattle.sayable.specs.Sayable.{is_kind}
use Rattle.said.specs.Said.{lines_text, has_kind}
use Rattle.said.proofs.Short.{signed-short}
use Rattle.shape_section.specs.Shapes.{shapes_head, word_line, shape_text, shape_line, shape_section}
use Rattle.restated_laws.proofs.Going.{Goes, goes_none, goes_then, goes-went, goes-row}
use Rattle.restated_laws.proofs.RowBack.{plain-line, control-append, plain_step_lem}
use Rattle.restated_laws.proofs.SectionBack.{line_of, Open, head-line, such-none-of}
use Rattle.restated_laws.proofs.ListedBack.{integer-text}

-- ---- A word and a number
module _ (word : List ℕ) (visible : all_visible word ≡ true) (some : 1 ≤ length word) (few : length word ≤ 20) (n : ℕ) (small : n ≤ largest_id) where
  abbrev pair : List ℕ
  pair = word ++ (32 ∷ signed_text (pos n))

  pair-fields : fields_of pair ≡ word ∷ signed_text (pos n) ∷ []
  pair-fields = fields-word (signed_text (pos n)) (visible-word word some visible) ∙ ap (λ (fs : List (List ℕ)). word ∷ fs) (fields-last (signed_word (pos n)))

  pair-plain : any_control pair ≡ false
  pair-plain =
      let h : any_control (32 ∷ signed_text (pos n)) ≡ false = unfold any_control is_control in visible_plain (signed_text (pos n)) (signed-visible (pos n)) in
      control-append word (32 ∷ signed_text (pos n)) (visible_plain word visible) h

  pair-short : length pair ≤ 1024
  pair-short = let s = signed-short (pos n) (omega arith) in omega (arith, length-append word (32 ∷ signed_text (pos n)))

  pair-number : (low high : ℕ) → low ≤ n → n ≤ high → word_number_of word low high (fields_of pair) ≡ Some n
  unfolding word_number_of
  pair-number low high l m = rw (pair-fields, same_refl word) (integer-text low high n (omega arith) l m)

  pair_step : (st : State) (k : ℕ) → mark_of pair ≡ Plain → step_of st k pair ≡ plain_step st k pair st.place
  pair_step st k m = plain_step_lem st k pair pair-short pair-plain m

-- the line with its end
pub word-line : (word : List ℕ) (z : ℤ) → word_line word z ≡ (word ++ (32 ∷ signed_text z)) ++ (10 ∷ [])
unfolding word_line
word-line word z = rw append_assoc

id-mark : (t : List ℕ) → mark_of (shape_id_word ++ t) ≡ Plain
unfolding shape_id_word mark_of is_blank
id-mark t = refl

count-mark : (t : List ℕ) → mark_of (num_samples_word ++ t) ≡ Plain
unfolding num_samples_word mark_of is_blank
count-mark t = refl

id-visible : all_visible shape_id_word ≡ true
unfolding shape_id_word all_visible is_visible
id-visible = refl

count-visible : all_visible num_samples_word ≡ true
unfolding num_samples_word all_visible is_visible
count-visible = refl

id-some : 1 ≤ length shape_id_word
unfolding shape_id_word
id-some = omega arith

id-few : length shape_id_word ≤ 20
unfolding shape_id_word
id-few = omega arith

count-some : 1 ≤ length num_samples_word
unfolding num_samples_word
count-some = omega arith

count-few : length num_samples_word ≤ 20
unfolding num_samples_word
count-few = omega arith

-- ---- `shape_id N` where shapes stand, and `num_samples N` behind it
id-step : (st : State) (n id : ℕ) (t : List ℕ) → word_number_of shape_id_word 1 largest_id (fields_of t) ≡ Some id → plain_step st n t (Section Shapes) ≡ went_of (moved_of st (Head (pos id) n))
unfolding plain_step lines_step head_step head_row
id-step st n id t e = rw e

abbrev pub shape_row : State → ℕ → ℕ → List ℤ
shape_row st id num = padded shape_kind (pos id ∷ pos num ∷ pos (min st.samples largest) ∷ [])

count-step : (st : State) (n m id num : ℕ) (t : List ℕ) → word_number_of num_samples_word 1 (most_of Count) (fields_of t) ≡ Some num
    → plain_step st n t (Head (pos id) m) ≡ gave_of (counted_of st num) m (shape_row st id num)
unfolding plain_step count_step count_row
count-step st n m id num t e = rw e

pub shape-id-back : (st : State) (n id : ℕ) → st.place ≡ Section Shapes → 1 ≤ id → id ≤ largest_id
    → Goes st n (word_line shape_id_word (pos id)) [] [] (moved_of st (Head (pos id) n)) (suc n)
shape-id-back st n id p l m =
    let t = shape_id_word ++ (32 ∷ signed_text (pos id)) in
    rw (word-line shape_id_word (pos id))
    (goes-went t (plain-line t (pair-plain shape_id_word id-visible id-some id-few id m))
    (pair_step shape_id_word id-visible id-some id-few id m st n (id-mark (32 ∷ signed_text (pos id)))
    ∙ ap (plain_step st n t) p
    ∙ id-step st n id t (pair-number shape_id_word id-visible id-some id-few id m 1 largest_id l m)))

-- the line of a count, and what it gives
abbrev pub count_line : ℕ → List ℕ
count_line num = num_samples_word ++ (32 ∷ signed_text (pos num))

module _ (num : ℕ) (l : 1 ≤ num) (h : num ≤ most_of Count) where
  pub count-one-line : OneLine (count_line num)
  count-one-line = plain-line (count_line num) (pair-plain num_samples_word count-visible count-some count-few num (omega arith))

  pub shape-count-step : (st : State) (n m id : ℕ) → st.place ≡ Head (pos id) m → step_of st n (count_line num) ≡ gave_of (counted_of st num) m (shape_row st id num)
  shape-count-step st n m id p =
      let s : num ≤ largest_id = omega arith in
      pair_step num_samples_word count-visible count-some count-few num s st n (count-mark (32 ∷ signed_text (pos num)))
      ∙ ap (plain_step st n (count_line num)) p
      ∙ count-step st n m id num (count_line num) (pair-number num_samples_word count-visible count-some count-few num s 1 (most_of Count) l h)

pub shape-count-back : (st : State) (n m id num : ℕ) → st.place ≡ Head (pos id) m → 1 ≤ num → num ≤ most_of Count
    → Goes st n (word_line num_samples_word (pos num)) (record { line = m; cells = shape_row st id num } ∷ []) [] (counted_of st num) (suc n)
shape-count-back st n m id num p l h =
    rw (word-line num_samples_word (pos num)) (goes-row (count_line num) (count-one-line num l h) m (shape_row st id num) (shape-count-step num l h st n m id p))

-- both: a row with the shape's ID, its count and the place of its first sample, at the line of its ID
pub shape-head-back : (st : State) (n id num : ℕ) → st.place ≡ Section Shapes → 1 ≤ id → id ≤ largest_id → 1 ≤ num → num ≤ most_of Count
    → Goes st n (word_line shape_id_word (pos id) ++ word_line num_samples_word (pos num)) (record { line = n; cells = shape_row st id num } ∷ []) [] (counted_of st num) (suc (suc n))
unfolding counted_of
shape-head-back st n id num p l m a b = goes_then (shape-id-back st n id p l m) (shape-count-back (moved_of st (Head (pos id) n)) (suc n) n id num refl a b)

-- ---- The head of the section, and the blank line that ends a shape
pub shapes-head-back : (st : State) (n : ℕ) → Open st 9 → Goes st n shapes_head [] [] (entered st 9 (Section Shapes)) (suc n)
unfolding shapes_head is_blank mark_of is_comment is_control any_control breaks_line blank_len body_len trimmed same_bytes place_from section_names section_no place_in
shapes-head-back st n o = head-line st n (91 ∷ 83 ∷ 72 ∷ 65 ∷ 80 ∷ 69 ∷ 83 ∷ 93 ∷ []) 9 refl refl refl refl o

value-end : (st : State) (n : ℕ) → step_of st n [] ≡ blank_step st st.place
unfolding any_control breaks_line is_comment mark_of marked_step step_of
value-end st n = refl

values-end : (st : State) → blank_step st Values ≡ went_of (moved_of st (Section Shapes))
unfolding blank_step
values-end st = refl

pub shape-end-back : (st : State) (n : ℕ) → st.place ≡ Values → Goes st n (10 ∷ []) [] [] (moved_of st (Section Shapes)) (suc n)
shape-end-back st n p = line_of [] (unfold any_control in refl) (value-end st n ∙ ap (blank_step st) p ∙ values-end st)

-- ---- Stored lines, each of which holds a decimal
value-step : (st : State) (n : ℕ) (l : List ℕ) (d : Decimal) → item_of l ≡ Value d → plain_step st n l Values ≡ went_of st
unfolding plain_step value_row
value-step st n l d e = rw e

counted-values : (st : State) (num : ℕ) → (counted_of st num).place ≡ Values
unfolding counted_of
counted-values st num = refl

item-step : (st : State) (n : ℕ) (l : List ℕ) (d : Decimal) → item_of l ≡ Value d → st.place ≡ Values → step_of st n l ≡ went_of st
unfolding item_of mark_item step_of marked_step
item-step st n l d e p = go (breaks_line l) (mark_of l) e (ap (plain_step st n l) p ∙ value-step st n l d e)
  where
    go : (b : Bool) (m : Mark) → cond b ItemBad (mark_item m l) ≡ Value d → plain_step st n l st.place ≡ went_of st → cond b (refused_of st LineFault) (marked_step st n l m) ≡ went_of st
    go true m x q = absurd (let z : ◌≡◌ {A = ℕ} 0 1 = cc in omega arith)
    go false Blank x q = absurd (let z : ◌≡◌ {A = ℕ} 0 1 = cc in omega arith)
    go false Comment x q = refl
    go false SectionLine x q = absurd (let z : ◌≡◌ {A = ℕ} 0 1 = cc in omega arith)
    go false Plain x q = q

pub values-back : {ls : List (List ℕ)} {ds : List Decimal} → HoldAll ls ds → (st : State) (n : ℕ) → st.place ≡ Values → Goes st n (ended_lines ls) [] [] st (n + length ls)
unfolding ended_lines
values-back no_line st n p = let z : n + 0 ≡ n = omega arith in rw z goes_none
values-back (a-line {l} {d} {ls} h q) st n p =
    let z : n + suc (length ls) ≡ suc n + length ls = omega arith in
    rw z (rw (append_assoc l (10 ∷ []) (ended_lines ls)) at (goes_then (goes-went l (visible-line l h.visible) (item-step st n l d h.item p)) (values-back q st (suc n) p)))

-- ---- The stored lines of samples within the limits
pub stored-hold : (edition : Edition) (zs : List ℤ) → all_within zs ≡ true → length zs ≤ 1000000
    → HoldAll (stored_lines edition zs) (cond (is_plain_text edition (length (packed_lines zs)) (length zs)) (map sample_of zs) (runs_values (runs_of (differences_from (pos 0) zs))))
unfolding stored_lines packed_lines
stored-hold edition zs w few = go (is_plain_text edition (length (packed_lines zs)) (length zs))
  where
    runs : HoldAll (packed_lines zs) (runs_values (runs_of (differences_from (pos 0) zs)))
    runs = unfold packed_lines in
        let n = differences-length (pos 0) zs in
        runs-hold (omega arith) (runs-longest (differences-all (pos 0) (omega arith) (within_all zs w)))

    go : (b : Bool) → HoldAll (cond b (plain_lines zs) (packed_lines zs)) (cond b (map sample_of zs) (runs_values (runs_of (differences_from (pos 0) zs))))
    go true = plain-hold (within_all zs w)
    go false = runs

-- ---- A shape, from its ID to its blank line
abbrev pub behind_shape : State → ℕ → State
behind_shape st num = moved_of (counted_of st num) (Section Shapes)

pub shape-back : (target : Edition) (rows samples : List ℤ) (k id num : ℕ) → number_at rows k 1 ≡ pos id → number_at rows k 2 ≡ pos num → 1 ≤ id → id ≤ largest_id → 1 ≤ num → num ≤ most_of Count
    → all_within (samples_at rows k samples) ≡ true → length (samples_at rows k samples) ≤ 1000000 → (st : State) (n : ℕ) → st.place ≡ Section Shapes
    → Goes st n (shape_text target rows samples k) (record { line = n; cells = shape_row st id num } ∷ []) [] (behind_shape st num)
    (suc (suc (suc n) + length (stored_lines target (samples_at rows k samples))))
unfolding shape_text stored_text text_of counted_of
shape-back target rows samples k id num i c l m a b w few st n p =
    rw (i, c, w)
    (goes_then (shape-id-back st n id p l m)
    (goes_then (shape-count-back (moved_of st (Head (pos id) n)) (suc n) n id num refl a b)
    (goes_then (values-back (stored-hold target (samples_at rows k samples) w few) (counted_of st num) (suc (suc n)) (counted-values st num)) (shape-end-back (counted_of st num) _ (counted-values st num)))))

-- ---- The section: shapes one after another, each at the place where those before it end
-- a shape that can be read: its ID and its count in range, its samples within the limits
pub record ShapeIn (rows samples : List ℤ) (k : ℕ) : Type 0 where
  pub id : ℕ
  pub num : ℕ
  pub is-id : number_at rows k 1 ≡ pos id
  pub is-num : number_at rows k 2 ≡ pos num
  pub least : 1 ≤ id
  pub most : id ≤ largest_id
  pub some : 1 ≤ num
  pub few : num ≤ most_of Count
  pub within : all_within (samples_at rows k samples) ≡ true
  pub short : length (samples_at rows k samples) ≤ 1000000

module _ (target : Edition) (rows samples : List ℤ) where
  abbrev is_shape_at : ℕ → Bool
  is_shape_at k = is_kind rows k (pos shape_kind)

  abbrev next_state : State → ℕ → State
  next_state st k = behind_shape st (nat_abs (number_at rows k 2))

  abbrev next_line : ℕ → ℕ → ℕ
  next_line n k = suc (suc (suc n) + length (stored_lines target (samples_at rows k samples)))

  -- the rows of m rows from row k on that are shapes, the state behind them and the number of the next line
  unfoldable pub shapes_given : State → ℕ → ℕ → ℕ → List Placed
  shapes_given st n k zero = []
  shapes_given st n k (suc m) =
      cond (is_shape_at k)
      (record { line = n; cells = shape_row st (nat_abs (number_at rows k 1)) (nat_abs (number_at rows k 2)) } ∷ shapes_given (next_state st k) (next_line n k) (suc k) m)
      (shapes_given st n (suc k) m)

  unfoldable pub shapes_state : State → ℕ → ℕ → State
  shapes_state st k zero = st
  shapes_state st k (suc m) = cond (is_shape_at k) (shapes_state (next_state st k) (suc k) m) (shapes_state st (suc k) m)

  unfoldable pub shapes_line : ℕ → ℕ → ℕ → ℕ
  shapes_line n k zero = n
  shapes_line n k (suc m) = cond (is_shape_at k) (shapes_line (next_line n k) (suc k) m) (shapes_line n (suc k) m)

  given-none : (st : State) (n k m : ℕ) → ((j : ℕ) → k ≤ j → j < k + m → is_shape_at j ≡ false) → shapes_given st n k m ≡ []
  unfolding shapes_given
  given-none st n k zero h = refl
  given-none st n k (suc m) h = rw (h k (omega arith) (omega arith)) (given-none st n (suc k) m (λ j (a : suc k ≤ j) (b : j < suc k + m). h j (omega arith) (omega arith)))

  one-back : (st : State) (n k : ℕ) → st.place ≡ Section Shapes → ShapeIn rows samples k
      → Goes st n (shape_text target rows samples k) (record { line = n; cells = shape_row st (nat_abs (number_at rows k 1)) (nat_abs (number_at rows k 2)) } ∷ []) [] (next_state st k) (next_line n k)
  one-back st n k p x =
      let i : nat_abs (number_at rows k 1) ≡ x.id = ap nat_abs x.is-id in
      let c : nat_abs (number_at rows k 2) ≡ x.num = ap nat_abs x.is-num in
      rw (i, c) (shape-back target rows samples k x.id x.num x.is-id x.is-num x.least x.most x.some x.few x.within x.short st n p)

  module _ (stop : ℕ) (fine : (k : ℕ) → k < stop → is_shape_at k ≡ true → ShapeIn rows samples k) where
    shapes-back : (st : State) (n k m : ℕ) → k + m ≤ stop → st.place ≡ Section Shapes
        → Goes st n (lines_text (shape_line target rows samples) k m) (shapes_given st n k m) [] (shapes_state st k m) (shapes_line n k m)
    unfolding lines_text shape_line shapes_given shapes_state shapes_line
    shapes-back st n k zero h p = goes_none
    shapes-back st n k (suc m) h p =
        go (is_shape_at k) (λ e. one-back st n k p (fine k (omega arith) e)) refl (shapes-back (next_state st k) (next_line n k) (suc k) m (omega arith) refl) (shapes-back st n (suc k) m (omega arith) p)
      where
        go : (b : Bool)
            → (is_shape_at k ≡ true
            → Goes st n (shape_text target rows samples k) (record { line = n; cells = shape_row st (nat_abs (number_at rows k 1)) (nat_abs (number_at rows k 2)) } ∷ []) [] (next_state st k) (next_line n k))
            → is_shape_at k ≡ b → {t : List ℕ} {rs rs' : List Placed} {end end' : State} {l l' : ℕ} → Goes (next_state st k) (next_line n k) t rs [] end l → Goes st n t rs' [] end' l'
            → Goes st n (cond b (shape_text target rows samples k) [] ++ t)
            (cond b (record { line = n; cells = shape_row st (nat_abs (number_at rows k 1)) (nat_abs (number_at rows k 2)) } ∷ rs) rs')
            []
            (cond b end end')
            (cond b l l')
        go true f e x y = goes_then (f e) x
        go false f e x y = y

    pub shape-section-back : (st : State) (n : ℕ) → Open st 9
        → Goes st n (shape_section target rows stop samples) (shapes_given (entered st 9 (Section Shapes)) (suc n) 0 stop) []
        (cond (has_kind (pos shape_kind) rows stop) (shapes_state (entered st 9 (Section Shapes)) 0 stop) st)
        (cond (has_kind (pos shape_kind) rows stop) (shapes_line (suc n) 0 stop) n)
    unfolding shape_section
    shape-section-back st n o = go (has_kind (pos shape_kind) rows stop) refl (shapes-back (entered st 9 (Section Shapes)) (suc n) 0 stop (omega arith) refl)
      where
        none : has_kind (pos shape_kind) rows stop ≡ false → (j : ℕ) → 0 ≤ j → j < 0 + stop → is_shape_at j ≡ false
        none e j a b = unfold has_kind in such-none-of is_shape_at stop e j (omega arith)

        go : (b : Bool) → has_kind (pos shape_kind) rows stop ≡ b
            → Goes (entered st 9 (Section Shapes)) (suc n) (lines_text (shape_line target rows samples) 0 stop) (shapes_given (entered st 9 (Section Shapes)) (suc n) 0 stop) []
            (shapes_state (entered st 9 (Section Shapes)) 0 stop)
            (shapes_line (suc n) 0 stop)
            → Goes st n (cond b (shapes_head ++ lines_text (shape_line target rows samples) 0 stop) []) (shapes_given (entered st 9 (Section Shapes)) (suc n) 0 stop) []
            (cond b (shapes_state (entered st 9 (Section Shapes)) 0 stop) st)
            (cond b (shapes_line (suc n) 0 stop) n)
        go true e x = goes_then (shapes-head-back st n o) x
        go false e x = rw (given-none (entered st 9 (Section Shapes)) (suc n) 0 stop (none e)) goes_none
