-- Rows that lines give: what is noted of them, and kept part by part. Assumes nothing.
use Prim.Native.Nat.{ℕ, ◌+◌, ◌-◌, ◌≤◌}
use mathlib.Core.Bool.{Bool, true, false, cond, ◌&&◌}
use mathlib.Core.List.{List, [], ◌∷◌, ◌++◌}
use mathlib.Core.Logic.{◌⊎◌, inl, inr}
use mathlib.Core.Path.{◌≡◌, refl, sym, ap, ap₂, ◌∙◌}
use native.Mathlib.Omega.{arith}
use lib.Dec.{ltb}
use lib.IntN.{ℤ}
use lib.ListN.{length, get_or, take, drop}
use Rattle.text.specs.Lines.{lines_of}
use Rattle.text.specs.declared.Line.{Line}
use Rattle.text.proofs.Cases.{true-or-false}
use Rattle.text.proofs.Cut.{LineAt}
use Rattle.sets.specs.Sets.{kept_of, places_after, unless_new, is_in}
use Rattle.places.specs.Places.{fresh}
use Rattle.places.specs.declared.State.{State}
use Rattle.places.specs.declared.Stepped.{Stepped}
use Rattle.grammar.specs.Steps.{step_of}
use Rattle.file.specs.Whole.{is_fault, is_row, row_count, gathered}
use Rattle.file.specs.Rows.{Placed, row_at, rows_from, rows_of}
use Rattle.file.proofs.Laying.{row_zero, row-some}
use Rattle.file.proofs.Walking.{Within, within-start, within-turn, gathered-turn, gathered-stop, gathered-end}
use Rattle.tables.specs.Tables.{class_at, number_at}
use Rattle.again.specs.Noting.{noted, is_open, all_ascend, key_of}
use Rattle.again.specs.Inside.{Noted}
use Rattle.again.proofs.Noting.{noted-start, noted-next, noted-fewer, ascend-closed}
use Rattle.duplicates.specs.Again.{FirstLine}
use Rattle.duplicates.specs.Inside.{MetAgain, AskedAgain, in_part, ask_first, keep_first, row_line}
use Rattle.duplicates.proofs.Rising.{rows-rise}
use Rattle.duplicates.proofs.First.{first-none, first-unique, next_such, again-first}
use Rattle.duplicates.proofs.Parts.{Few, nothing, single, front, no-rest, ask-as, PartWalk, walk-hit, walk_turn, PartsWalk, parts-end}
use Rattle.repeats.specs.Repeats.{next_row, rows_again}
use Rattle.repeats.specs.Inside.{row_given, no_row, row_class, row_id, same_row, row_number, row_open, stood_before, noted_by, class_no, id_no}
use Rattle.repeats.proofs.Twice.{like_is, is-like, next-such, again-such}

-- ---- what is the same has one number, is asked for in the same part, and is the same the other way round
same_number : (x y : Placed) → same_row x y ≡ true → row_number x ≡ row_number y
same_number x y e = let b = like_is (row_class x) (row_id x) y e in sym (ap₂ key_of b.0 b.1)

same-part : (most : List ℤ) (parts part : ℕ) (x y : Placed) → same_row x y ≡ true → in_part row_number (row_open most) parts part x ≡ in_part row_number (row_open most) parts part y
same-part most parts part x y e =
    let b = like_is (row_class x) (row_id x) y e in
    ap₂ (λ (o p : Bool). o && p) (sym (ap (is_open most) b.0)) (ap (λ (z : ℕ). is_in z parts part) (same_number x y e))

swap : (x y : Placed) → same_row x y ≡ true → same_row y x ≡ true
swap x y e = let b = like_is (row_class x) (row_id x) y e in is-like (row_class y) (row_id y) x (sym b.0) (sym b.1)

own : (x : Placed) → same_row x x ≡ true
own x = is-like (row_class x) (row_id x) x refl refl

-- ---- a line gives one row or none
given-at : (n : ℕ) (line : List ℕ) (s : Stepped) → row_given s ≡ row_at n line s
unfolding row_given row_at
given-at n line s = refl

few-rows : (n : ℕ) (line : List ℕ) (s : Stepped) → Few (row_at n line s)
unfolding row_at
few-rows n line s = go (is_row s.found)
  where
    go : (b : Bool) → Few {A = Placed} (cond b (record { line = s.line; cells = s.cells } ∷ []) [])
    go true = single _
    go false = nothing

own_line : (n : ℕ) (line : List ℕ) (s : Stepped) (x : Placed) (ys : List Placed) → row_at n line s ≡ x ∷ ys → s.line ≡ x.line
unfolding row_at
own_line n line s x ys = go (is_row s.found)
  where
    first-same : {a b : Placed} {us vs : List Placed} → a ∷ us ≡ b ∷ vs → a ≡ b
    first-same q = cc

    go : (b : Bool) → cond b (record { line = s.line; cells = s.cells } ∷ []) [] ≡ x ∷ ys → s.line ≡ x.line
    go true e = ap row_line (first-same e)
    go false e = absurd (let z : ◌≡◌ {A = ℕ} 0 1 = cc in omega arith)

-- by how many rows a line gave
module _ (s : Stepped) (count : ℕ) (p : count ≡ row_count s.found) where
  given-none : count ≡ 0 → row_given s ≡ []
  unfolding row_given
  given-none e = rw (row_zero s.found (sym p ∙ e))

  given-one : (count ≡ 0 → ⊥) → row_given s ≡ record { line = s.line; cells = s.cells } ∷ []
  unfolding row_given
  given-one n = rw (row-some s.found (λ q. n (p ∙ q)))

  -- ---- what the code notes of it
  pub notes-none : (most : List ℤ) → count ≡ 0 → most ≡ noted_by most (row_given s)
  unfolding noted_by
  notes-none most e = rw (given-none e)

  pub notes-one : (most : List ℤ) → (count ≡ 0 → ⊥) → (class id : ℤ) → class ≡ class_at s.cells 0 → id ≡ number_at s.cells 0 1 → {next : List ℤ} → next ≡ noted most class id → next ≡ noted_by most (row_given s)
  unfolding noted_by
  notes-one most n class id e f q = q ∙ rw (given-one n, e, f)

  -- ---- what the code asks and keeps of it
  module _ (most : List ℤ) (parts part : ℕ) (file places : List ℕ) where
    abbrev asks : Bool
    asks = ask_first row_number (in_part row_number (row_open most) parts part) (stood_before file) places (row_given s)

    abbrev keeps : List ℕ
    keeps = keep_first row_number (in_part row_number (row_open most) parts part) places (row_given s)

    pub asks_nothing : count ≡ 0 → (false ≡ asks) × (places ≡ keeps)
    unfolding ask_first keep_first
    asks_nothing e = (rw (given-none e), rw (given-none e))

    module _ (n : count ≡ 0 → ⊥) (class id : ℤ) (e : class ≡ class_at s.cells 0) (f : id ≡ number_at s.cells 0 1) (number : ℕ) (q : number ≡ key_of class id) where
      pub asks-not : is_open most class && is_in number parts part ≡ false → (false ≡ asks) × (places ≡ keeps)
      unfolding ask_first keep_first
      asks-not o = (rw (given-one n, ← e, ← f, ← q, o), rw (given-one n, ← e, ← f, ← q, o))

      pub asks-row : is_open most class && is_in number parts part ≡ true → (b : Bool) → b ≡ unless_new (kept_of places number) (ltb (next_row class id (rows_of file)) s.line) → (after : List ℕ)
          → after ≡ places_after places number → (b ≡ asks) × (after ≡ keeps)
      unfolding ask_first keep_first
      asks-row o b r after t = (rw (given-one n, ← e, ← f, ← q, o) r, rw (given-one n, ← e, ← f, ← q, o) t)

-- whether a row of a class with an ID stood before, for class and ID as they were handed on
module _ (file : List ℕ) {class id held ref : ℤ} (a : held ≡ class) (b : ref ≡ id) (line : ℕ) where
  pub stood-as : ltb (next_row held ref (rows_of file)) line ≡ ltb (next_row class id (rows_of file)) line
  stood-as = rw (a, b)

  pub stood-is : (first : ℕ) (st : State) → st ≡ fresh → first ≡ next_row held ref (rows_from st 1 (lines_of file)) → ltb first line ≡ ltb (next_row class id (rows_of file)) line
  unfolding rows_of
  stood-is first st e p = rw (p, e) stood-as

-- ---- the walk that notes all rows
pub record NoteWalk (file : List ℕ) (start : List ℤ) (st : State) (at n : ℕ) (most : List ℤ) : Type 0 where
  pub within : Within file at n
  pub long : length most ≡ length start
  pub i : ℕ
  pub rest : gathered row_at st n (lines_of (drop at file)) ≡ drop i (rows_of file)
  pub noted-so : Noted (class_no (rows_of file)) (id_no (rows_of file)) most i

pub note-start : (file : List ℕ) (start : List ℤ) (st : State) → st ≡ fresh → NoteWalk file start st 0 1 start
unfolding rows_of
note-start file start st e = record { within = within-start file; long = refl; i = 0; rest = rw e; noted-so = noted-start _ _ start }

module _ {file : List ℕ} {start : List ℤ} {st : State} {at n : ℕ} {most : List ℤ} (w : NoteWalk file start st at n most) where
  note-none : [] ≡ gathered row_at st n (lines_of (drop at file)) → Noted (class_no (rows_of file)) (id_no (rows_of file)) most (length (rows_of file))
  note-none e = noted-fewer _ _ most w.i (length (rows_of file)) (no-rest no_row (rows_of file) w.i (e ∙ w.rest)) w.noted-so

  pub note-end : length file ≤ at → Noted (class_no (rows_of file)) (id_no (rows_of file)) most (length (rows_of file))
  note-end h = note-none (gathered-end file at h st n row_at)

  module _ (r : Line) (l : LineAt file at r) (s : Stepped) (p : s ≡ step_of st n (take (r.stop - at) (drop at file))) where
    pub note-fault : is_fault s.found ≡ true → Noted (class_no (rows_of file)) (id_no (rows_of file)) most (length (rows_of file))
    note-fault e = note-none (gathered-stop file at r l st n s p row_at e)

    pub note-turn : is_fault s.found ≡ false → (after : List ℤ) → after ≡ noted_by most (row_given s) → length after ≡ length most → NoteWalk file start s.next r.next (n + 1) after
    unfolding noted_by
    note-turn e after q long = go (row_at n (take (r.stop - at) (drop at file)) s) refl (few-rows n (take (r.stop - at) (drop at file)) s) (rw (given-at n (take (r.stop - at) (drop at file)) s) at q)
      where
        whole : row_at n (take (r.stop - at) (drop at file)) s ++ gathered row_at s.next (n + 1) (lines_of (drop r.next file)) ≡ drop w.i (rows_of file)
        whole = gathered-turn file at r l st n s p row_at e ∙ w.rest

        go : (ys : List Placed) → row_at n (take (r.stop - at) (drop at file)) s ≡ ys → Few ys → after ≡ noted_by most ys → NoteWalk file start s.next r.next (n + 1) after
        go _ z nothing k = record { within = within-turn w.within l; long = long ∙ w.long; i = w.i; rest = rw z at whole; noted-so = rw k w.noted-so }
        go _ z (single x) k =
            let f = front no_row (rows_of file) w.i x _ (rw z at whole) in
            record {
              within = within-turn w.within l;
              long = long ∙ w.long;
              i = w.i + 1;
              rest = f.behind;
              noted-so = noted-next _ _ most w.i w.noted-so (row_class x) (row_id x) k (ap row_class (sym f.is)) (ap row_id (sym f.is));
            }

-- ---- the walk over the lines of a file that keeps rows
abbrev pub RowWalk : List ℤ → ℕ → ℕ → List ℕ → List ℕ → State → ℕ → ℕ → List ℕ → Type 0
RowWalk most parts part file start st at n places = PartWalk row_line no_row same_row row_number (in_part row_number (row_open most) parts part) row_at file (rows_of file) start st at n places

module _ (most : List ℤ) (parts part : ℕ) {file start : List ℕ} {st : State} {at n : ℕ} {places : List ℕ} (w : RowWalk most parts part file start st at n places) (r : Line) (l : LineAt file at r) (s : Stepped) (p : s ≡ step_of st n (take (r.stop - at) (drop at file))) (e : is_fault s.found ≡ false) (b : Bool) (q : b ≡ ask_first row_number (in_part row_number (row_open most) parts part) (stood_before file) places (row_given s)) where
  asks-so : b ≡ ask_first row_number (in_part row_number (row_open most) parts part) (λ x. ltb (next_such row_line (same_row x) (rows_of file)) x.line) places (row_at n (take (r.stop - at) (drop at file)) s)
  asks-so =
      (rw (given-at n (take (r.stop - at) (drop at file)) s) at q)
      ∙ ask-as row_number (in_part row_number (row_open most) parts part) (stood_before file) _ places _ (λ x. ap (λ (z : ℕ). ltb z x.line) (sym (next-such (row_class x) (row_id x) (rows_of file))))

  pub row-hit : b ≡ true → FirstLine (AskedAgain row_line no_row same_row (in_part row_number (row_open most) parts part) (rows_of file)) s.line
  row-hit t =
      walk-hit row_line no_row same_row row_number (in_part row_number (row_open most) parts part) w r l s p same_number (same-part most parts part) swap own (omega arith) (rows-rise file) (few-rows n (take (r.stop - at) (drop at file)) s) e
      s.line (own_line n (take (r.stop - at) (drop at file)) s) b asks-so t

  pub row-turn : b ≡ false → (after : List ℕ) → after ≡ keep_first row_number (in_part row_number (row_open most) parts part) places (row_given s) → length after ≡ length places
      → RowWalk most parts part file start s.next r.next (n + 1) after
  row-turn t after g long =
      walk_turn row_line no_row same_row row_number (in_part row_number (row_open most) parts part) w r l s p same_number (same-part most parts part) swap own (omega arith) (rows-rise file) (few-rows n (take (r.stop - at) (drop at file)) s) e
      b asks-so t after (rw (given-at n (take (r.stop - at) (drop at file)) s) at g) long

-- ---- a row that is met again is of an open class; so the first of all parts is the first
module _ (file : List ℕ) (most : List ℤ) (a : Noted (class_no (rows_of file)) (id_no (rows_of file)) most (length (rows_of file))) where
  abbrev rows : List Placed
  rows = rows_of file

  closed-unmet : (l : ℕ) (g : MetAgain row_line no_row same_row rows l) → is_open most (class_no rows g.j) ≡ false → ⊥
  closed-unmet l g o =
      let b = like_is (class_no rows g.i) (id_no rows g.i) (get_or rows g.j no_row) g.alike in
      (a.each g.j g.there o).once g.i g.before (sym b.0) (sym b.1)

  met-open : (l : ℕ) (g : MetAgain row_line no_row same_row rows l) → row_open most (get_or rows g.j no_row) ≡ true
  met-open l g = go (true-or-false (is_open most (class_no rows g.j)))
    where
      go : (is_open most (class_no rows g.j) ≡ true) ⊎ (is_open most (class_no rows g.j) ≡ false) → is_open most (class_no rows g.j) ≡ true
      go (inl t) = t
      go (inr o) = absurd (closed-unmet l g o)

  is-again : {first : ℕ} → FirstLine (MetAgain row_line no_row same_row rows) first → first ≡ rows_again rows
  is-again f = first-unique (λ l g. g) (λ l g. g) f (again-first row_line no_row same_row (omega arith) (rows-rise file)) ∙ again-such rows

  pub row-parts : {parts part first : ℕ} → 1 ≤ parts → PartsWalk row_line no_row same_row row_number (row_open most) rows parts part first → parts ≤ part → first ≡ rows_again rows
  row-parts some w h = is-again (parts-end row_line no_row same_row row_number (row_open most) some w h met-open)

  pub none-twice : all_ascend most ≡ true → 0 ≡ rows_again rows
  none-twice e = is-again (first-none (λ l g. closed-unmet l g (ascend-closed most e (class_no rows g.j))))
