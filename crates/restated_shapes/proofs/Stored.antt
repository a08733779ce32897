-- The stored lines of each shape of a restated text are those that were written for it. Assumes nothing.
use Prim.Native.Nat.{ℕ, zero, suc, ◌+◌, ◌≤◌, ◌<◌}
use mathlib.Core.Bool.{Bool, true, false, cond, ◌&&◌, true≢false}
use mathlib.Core.List.{List, [], ◌∷◌, ◌++◌, append_assoc, map}
use mathlib.Core.Logic.{◌⊎◌, inl, inr}
use mathlib.Core.Path.{◌≡◌, refl, sym, ap, ap₂, ◌∙◌}
use native.Mathlib.Omega.{arith}
use lib.Dec.{eqb}
use lib.IntN.{ℤ, pos}
use lib.ListN.{length, get_or}
use Rattle.text.specs.Lines.{whole_lines_of, bare_of, bare_len, onto}
use Rattle.text.specs.Marks.{mark_of, breaks_line}
use Rattle.text.specs.declared.Mark.{Mark}
use Rattle.text.specs.declared.Mark.TheVariants.{Blank, Comment, Section as SectionLine, Plain}
use Rattle.text.proofs.Lines.{OneLine, has_feed, lines-line, or_left, or_right}
use Rattle.text.proofs.Cut.{lines-bare}
use Rattle.text.proofs.Cases.{eq-or-ne}
use Rattle.fields.proofs.Visible.{visible-line}
use Rattle.signed.specs.Signed.{same_z}
use Rattle.signed.proofs.Sign.{same_z-refl, same_z-true}
use Rattle.numeral.specs.declared.Decimal.{Decimal}
use Rattle.shape.specs.Stored.{mark_item, item_of}
use Rattle.shape.specs.declared.Edition.{Edition}
use Rattle.shape.specs.declared.Item.TheVariants.{Value, Bad as ItemBad}
use Rattle.shape_text.specs.Written.{stored_lines, ended_lines, text_of, stored_text}
use Rattle.shape_text.proofs.Reread.{HoldAll, no_line, a-line}
use Rattle.columns.specs.Columns.{shape_kind, form_number}
use Rattle.columns.specs.Rows.{padded}
use Rattle.tables.specs.Tables.{number_at, samples_at, class_of, class_at, first_row, NoneAgain}
use Rattle.sections.specs.Entering.{entered}
use Rattle.places.specs.Places.{moved_of}
use Rattle.places.specs.declared.Lines.TheVariants.{Shapes}
use Rattle.places.specs.declared.Listed.{Listed}
use Rattle.places.specs.declared.Place.TheVariants.{Section, Head}
use Rattle.places.specs.declared.State.{State}
use Rattle.places.specs.declared.Stepped.{Stepped}
use Rattle.grammar.specs.Steps.{gave_of, shape_id_word, num_samples_word, step_of}
use Rattle.file.specs.Whole.{is_fault, is_row}
use Rattle.file.specs.Rows.{Placed, row_at}
use Rattle.file_laws.proofs.Padded.{own-number}
use Rattle.definitions.specs.Definitions.{Definition}
use Rattle.stored.specs.Shapes.{ends_shape, values_text, is_shape, stored_from, stored_of}
use Rattle.sayable.specs.Sayable.{is_kind}
use Rattle.said.specs.Said.{lines_text, has_kind}
use Rattle.shape_section.specs.Shapes.{shapes_head, word_line, shape_text, shape_line, shape_section}
use Rattle.restated.specs.Text.{restated_text}
use Rattle.restated_laws.proofs.Going.{Goes, goes_none, goes-line}
use Rattle.restated_laws.proofs.SectionBack.{such-none-of}
use Rattle.restated_laws.proofs.ShapeBack.{ShapeIn, shape_row, count_line, count-one-line, shape-count-step, shape-id-back, shapes-head-back, shape-back, behind_shape, word-line, stored-hold}
use Rattle.restated_laws.proofs.TextBack.{ListedFrom, listed_state, listed-open, delays_state, delays_end, open-delays, Readable, front-then, front-back}
use Rattle.restated_shapes.proofs.Front.{AllCells, no_cells, more-cells, kind-is, no-shape, first-all, listed-all}

-- ---- A line with its end, in front of others
module _ (rest : List ℕ) where
  whole_from : (l : List ℕ) → has_feed l ≡ false → whole_lines_of (l ++ (10 ∷ rest)) ≡ (l ++ (10 ∷ [])) ∷ whole_lines_of rest
  unfolding has_feed whole_lines_of onto
  whole_from [] f = refl
  whole_from (c ∷ s) f = rw (or_left (eqb c 10) (has_feed s) f, whole_from s (or_right (eqb c 10) (has_feed s) f))

  pub whole-line : {l : List ℕ} → OneLine l → whole_lines_of (l ++ (10 ∷ rest)) ≡ (l ++ (10 ∷ [])) ∷ whole_lines_of rest
  whole-line {l} o = whole_from l o.whole

pub bare-line : {l : List ℕ} → OneLine l → bare_of (l ++ (10 ∷ [])) ≡ l
bare-line {l} o = ap (λ (ls : List (List ℕ)). get_or ls 0 []) (sym (sym (lines-line [] o) ∙ lines-bare (l ++ (10 ∷ [])) ∙ ap (map bare_of) (whole-line [] o)))

-- ---- A text that gives no shape with this ID is passed over
unfoldable pub is_shape_with : ℤ → List ℤ → Bool
is_shape_with id cells = same_z (get_or cells 0 (pos 0)) (pos shape_kind) && same_z (get_or cells 1 (pos 0)) id

abbrev pub OtherShape : ℤ → List ℤ → Type 0
OtherShape id cells = is_shape_with id cells ≡ false

not-shape : (id : ℤ) (n : ℕ) (l : List ℕ) (r : Stepped) {rs : List Placed} → AllCells (OtherShape id) (row_at n l r ++ rs) → (is_shape id r ≡ false) × AllCells (OtherShape id) rs
unfolding row_at is_shape is_shape_with
not-shape id n l r {rs} a = go (is_row r.found) a
  where
    go : (b : Bool) → AllCells (OtherShape id) (cond b (record { line = r.line; cells = r.cells } ∷ []) [] ++ rs)
        → (b && (same_z (get_or r.cells 0 (pos 0)) (pos shape_kind) && same_z (get_or r.cells 1 (pos 0)) id) ≡ false) × AllCells (OtherShape id) rs
    go true (more-cells p q) = (p, q)
    go false q = (refl, q)

module _ (id : ℤ) (rest : List ℕ) where
  pub goes-stored : {st end : State} {n m : ℕ} {t : List ℕ} {rs : List Placed} {ds : List Definition} → Goes st n t rs ds end m → AllCells (OtherShape id) rs
      → stored_from id st n (whole_lines_of (t ++ rest)) ≡ stored_from id end m (whole_lines_of rest)
  unfolding stored_from
  goes-stored goes_none a = refl
  goes-stored (goes-line {st} {n = n} {t = t} l o f p) a =
      let x = not-shape id n l (step_of st n l) a in
      rw (append_assoc, whole-line (t ++ rest) o, bare-line o, f, x.0) (goes-stored p x.1)

  -- where a line gives it, its stored lines follow
  shape-stored : (st : State) (n : ℕ) {next : State} {line : ℕ} {cells : List ℤ} {l : List ℕ} → OneLine l → step_of st n l ≡ gave_of next line cells → is_shape_with id cells ≡ true
      → stored_from id st n (whole_lines_of (l ++ (10 ∷ rest))) ≡ values_text (whole_lines_of rest)
  unfolding stored_from is_shape is_shape_with is_fault is_row
  shape-stored st n o e s = rw (whole-line rest o, bare-line o, e, s)

-- ---- Lines that hold a decimal each are stored lines; a blank line ends them
value_stays : (l : List ℕ) (d : Decimal) → item_of l ≡ Value d → ends_shape (mark_of l) ≡ false
unfolding item_of mark_item ends_shape
value_stays l d e = go (breaks_line l) (mark_of l) e
  where
    go : (b : Bool) (m : Mark) → cond b ItemBad (mark_item m l) ≡ Value d → ends_shape m ≡ false
    go true m x = absurd (let z : ◌≡◌ {A = ℕ} 0 1 = cc in omega arith)
    go false Blank x = absurd (let z : ◌≡◌ {A = ℕ} 0 1 = cc in omega arith)
    go false Comment x = refl
    go false SectionLine x = absurd (let z : ◌≡◌ {A = ℕ} 0 1 = cc in omega arith)
    go false Plain x = refl

held-values : {ls : List (List ℕ)} {ds : List Decimal} → HoldAll ls ds → (rest : List ℕ) → values_text (whole_lines_of (ended_lines ls ++ (10 ∷ rest))) ≡ ended_lines ls
unfolding ended_lines values_text
held-values no_line rest = unfold whole_lines_of bare_of bare_len mark_of ends_shape in refl
held-values (a-line {l} {d} {ls} h p) rest =
    let o = visible-line l h.visible in
    rw (append_assoc, whole-line (ended_lines ls ++ (10 ∷ rest)) o, bare-line o, value_stays l d h.item, append_assoc, held-values p rest)

-- ---- A shape, from its ID to its blank line
joined-four : (a b c rest : List ℕ) → (a ++ (b ++ (c ++ (10 ∷ [])))) ++ rest ≡ a ++ (b ++ (c ++ (10 ∷ rest)))
joined-four a b c rest = rw (append_assoc, append_assoc, append_assoc)

count-first : (num : ℕ) (t : List ℕ) → word_line num_samples_word (pos num) ++ t ≡ count_line num ++ (10 ∷ t)
count-first num t = rw (word-line num_samples_word (pos num), append_assoc (count_line num) (10 ∷ []) t)

is-with : (id : ℕ) (vs : List ℤ) → length vs ≤ 10 → is_shape_with (pos id) (padded shape_kind (pos id ∷ vs)) ≡ true
unfolding is_shape_with
is-with id vs h = rw (kind-is shape_kind (pos id ∷ vs), own-number shape_kind (pos id ∷ vs) (omega arith) 0, same_z-refl (pos id), same_z-refl (pos shape_kind))

module _ (target : Edition) (rows samples : List ℤ) where
  own-stored : (k : ℕ) → ShapeIn rows samples k → (st : State) (n : ℕ) → st.place ≡ Section Shapes → (rest : List ℕ)
      → stored_from (number_at rows k 1) st n (whole_lines_of (shape_text target rows samples k ++ rest)) ≡ stored_text target (samples_at rows k samples)
  unfolding shape_text stored_text text_of
  own-stored k x st n p rest =
      let ls = stored_lines target (samples_at rows k samples) in
      let t = ended_lines ls ++ (10 ∷ rest) in
      let mid = moved_of st (Head (pos x.id) n) in
      rw (x.is-id, x.is-num, x.within, joined-four (word_line shape_id_word (pos x.id)) (word_line num_samples_word (pos x.num)) (ended_lines ls) rest)
      (goes-stored (pos x.id) (word_line num_samples_word (pos x.num) ++ t) (shape-id-back st n x.id p x.least x.most) no_cells
      ∙ ap (λ (s : List ℕ). stored_from (pos x.id) mid (suc n) (whole_lines_of s)) (count-first x.num t)
      ∙ shape-stored (pos x.id) t mid (suc n) (count-one-line x.num x.some x.few) (shape-count-step x.num x.some x.few mid (suc n) n x.id refl) (is-with x.id _ (omega arith))
      ∙ held-values (stored-hold target (samples_at rows k samples) x.within x.short) rest)

-- ---- IDs of shapes are unique, so that no other shape has this one
shape-class : (rows : List ℤ) (k : ℕ) → is_kind rows k (pos shape_kind) ≡ true → class_at rows k ≡ pos shape_kind
unfolding is_kind class_at class_of same_z
shape-class rows k s = rw (same_z-true (number_at rows k 0) (pos shape_kind) s)

pub shape-once : (rows : List ℤ) (count : ℕ) → NoneAgain rows count → (j k : ℕ) → j < count → k < count → is_kind rows j (pos shape_kind) ≡ true → is_kind rows k (pos shape_kind) ≡ true
    → number_at rows j 1 ≡ number_at rows k 1 → j ≡ k
unfolding NoneAgain
shape-once rows count once j k l m s t e = sym (once j l) ∙ ap₂ (first_row rows count) (shape-class rows j s ∙ sym (shape-class rows k t)) e ∙ once k m

with-other : (id : ℤ) (cells : List ℤ) → (get_or cells 1 (pos 0) ≡ id → ⊥) → OtherShape id cells
unfolding is_shape_with
with-other id cells n = go (same_z (get_or cells 0 (pos 0)) (pos shape_kind)) (same_z (get_or cells 1 (pos 0)) id) refl
  where
    go : (a b : Bool) → same_z (get_or cells 1 (pos 0)) id ≡ b → a && b ≡ false
    go true true e = absurd (n (same_z-true (get_or cells 1 (pos 0)) id e))
    go true false e = refl
    go false b e = refl

-- ---- The section: shapes before this one have other IDs
module _ (target : Edition) (rows samples : List ℤ) (count : ℕ) (fine : (k : ℕ) → k < count → is_kind rows k (pos shape_kind) ≡ true → ShapeIn rows samples k) (once : NoneAgain rows count) (k : ℕ)
    (here : k < count) (is : is_kind rows k (pos shape_kind) ≡ true) where
  other_row : (j : ℕ) → j < k → is_kind rows j (pos shape_kind) ≡ true → (x : ShapeIn rows samples j) (st : State) → OtherShape (number_at rows k 1) (shape_row st x.id x.num)
  other_row j l s x st =
      with-other (number_at rows k 1) (shape_row st x.id x.num)
      (λ e. let z : j ≡ k = shape-once rows count once j k (omega arith) here s is (x.is-id ∙ sym (own-number shape_kind _ (omega arith) 0) ∙ e) in omega arith)

  shapes-stored : (st : State) (n j m : ℕ) → st.place ≡ Section Shapes → j ≤ k → k < j + m
      → stored_from (number_at rows k 1) st n (whole_lines_of (lines_text (shape_line target rows samples) j m)) ≡ stored_text target (samples_at rows k samples)
  unfolding lines_text shape_line
  shapes-stored st n j zero p a b = absurd (omega arith)
  shapes-stored st n j (suc m) p a b =
      go (eq-or-ne j k) (is_kind rows j (pos shape_kind)) refl (λ st' n' q (h : suc j ≤ k). shapes-stored st' n' (suc j) m q h (omega arith))
    where
      rest : List ℕ
      rest = lines_text (shape_line target rows samples) (suc j) m

      go : (j ≡ k) ⊎ (j ≡ k → ⊥) → (b : Bool) → is_kind rows j (pos shape_kind) ≡ b
          → ((st' : State) (n' : ℕ) → st'.place ≡ Section Shapes → suc j ≤ k → stored_from (number_at rows k 1) st' n' (whole_lines_of rest) ≡ stored_text target (samples_at rows k samples))
          → stored_from (number_at rows k 1) st n (whole_lines_of (cond b (shape_text target rows samples j) [] ++ rest)) ≡ stored_text target (samples_at rows k samples)
      go (inl e) true s f = rw (← e) (own-stored target rows samples j (rw (← e) at (fine k here is)) st n p rest)
      go (inl e) false s f = absurd (true≢false (sym is ∙ ap (λ (i : ℕ). is_kind rows i (pos shape_kind)) (sym e) ∙ s))
      go (inr o) true s f =
          let l : j < k = omega arith in
          let x = fine j (omega arith) s in
          goes-stored (number_at rows k 1) rest (shape-back target rows samples j x.id x.num x.is-id x.is-num x.least x.most x.some x.few x.within x.short st n p) (more-cells (other_row j l s x st) no_cells)
          ∙ f (behind_shape st x.num) _ refl l
      go (inr o) false s f = f st n p (omega arith)

-- ---- A restated text
kind-other : (id : ℤ) (kind : ℕ) (vs : List ℤ) → eqb kind shape_kind ≡ false → OtherShape id (padded kind vs)
unfolding is_shape_with same_z
kind-other id kind vs e = rw (kind-is kind vs, e)

some-shape : (rows : List ℤ) (count k : ℕ) → k < count → is_kind rows k (pos shape_kind) ≡ true → has_kind (pos shape_kind) rows count ≡ true
unfolding has_kind
some-shape rows count k l s = go (has_kind (pos shape_kind) rows count) refl
  where
    go : (b : Bool) → has_kind (pos shape_kind) rows count ≡ b → b ≡ true
    go true e = refl
    go false e = absurd (true≢false (sym s ∙ such-none-of (λ j. is_kind rows j (pos shape_kind)) count e k l))

module _ (target : Edition) (raster : ℕ) (file site : List ℕ) (rows : List ℤ) (count : ℕ) (samples : List ℤ) (r : Readable target raster file site rows count samples) {rs : List Placed} {b : Bool} {last : Listed} {end : ℕ}
    (x : ListedFrom target rows count (delays_end target raster file site rows count samples) rs b last end) (once : NoneAgain rows count) where
  abbrev behind_listed : State
  behind_listed = listed_state b last (delays_state target raster file site rows count samples)

  pub stored_back : (k : ℕ) → k < count → is_kind rows k (pos shape_kind) ≡ true
      → stored_of (restated_text target raster file site rows count samples) (number_at rows k 1) ≡ stored_text target (samples_at rows k samples)
  unfolding stored_of shape_section
  stored_back k l s =
      let id = number_at rows k 1 in
      rw (front-then target raster file site rows count samples, some-shape rows count k l s)
      (goes-stored id (shapes_head ++ lines_text (shape_line target rows samples) 0 count) (front-back target raster file site rows count samples r x)
      (first-all (λ form vs. kind-other id (form_number form) vs (no-shape form)) target raster file site rows count samples
      (listed-all (λ form vs. kind-other id (form_number form) vs (no-shape form)) (λ type code. kind-other id 8 (pos type ∷ pos code ∷ []) refl) (λ vs. kind-other id 10 vs refl) x))
      ∙ goes-stored id (lines_text (shape_line target rows samples) 0 count) (shapes-head-back behind_listed end (listed-open (open-delays target raster file site rows count samples r 9 (omega arith) (omega arith)) b last)) no_cells
      ∙ shapes-stored target rows samples count r.shapes once k l s (entered behind_listed 9 (Section Shapes)) (suc end) 0 count refl (omega arith) (omega arith))
