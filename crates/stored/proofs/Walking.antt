-- A walk from shape to shape finds what a search from the front finds. Assumes nothing.
use Prim.Native.Nat.{ℕ, suc, ◌+◌, ◌-◌, ◌≤◌}
use mathlib.Core.Bool.{Bool, true, false, cond, true≢false, ◌&&◌}
use mathlib.Core.List.{List, [], ◌∷◌}
use mathlib.Core.Path.{◌≡◌, refl, sym, ◌∙◌}
use native.Mathlib.Omega.{arith}
use lib.IntN.{ℤ, pos}
use lib.ListN.{length, get_or, take, drop, drop_of_length-le}
use Rattle.text.specs.Lines.{lines_of, whole_lines_of, bare_of}
use Rattle.text.specs.Marks.{mark_of}
use Rattle.text.specs.declared.Line.{Line}
use Rattle.text.specs.declared.Mark.{Mark}
use Rattle.text.specs.declared.Mark.TheVariants.{Blank, Comment, Section as SectionLine, Plain}
use Rattle.text.proofs.Cases.{and_both}
use Rattle.text.proofs.Cut.{LineAt, WholeAt}
use Rattle.signed.specs.Signed.{same_z}
use Rattle.signed.proofs.Sign.{same_z-true, same_z-refl}
use Rattle.columns.specs.Columns.{shape_kind}
use Rattle.fields.specs.declared.Part.{Part}
use Rattle.grammar.specs.Parts.{no_part}
use Rattle.grammar.specs.Steps.{step_of}
use Rattle.grammar.proofs.Parts.{Holds, whole-ends, by_lines}
use Rattle.places.specs.Places.{fresh}
use Rattle.places.specs.declared.Found.{Found}
use Rattle.places.specs.declared.Found.TheVariants.{Nothing, Row, Definition, Fault as FoundFault}
use Rattle.places.specs.declared.Place.TheVariants.{Values}
use Rattle.places.specs.declared.State.{State}
use Rattle.places.specs.declared.Stepped.{Stepped}
use Rattle.file.specs.Whole.{is_fault, is_row}
use Rattle.file.specs.Marks.{walk_start, met_walk}
use Rattle.passing.specs.Sound.{sound_from, sound_of}
use Rattle.passing.specs.Passing.{passes_of}
use Rattle.passing.specs.Left.{found_section, given_section}
use Rattle.passing.proofs.Left.{silent-line}
use Rattle.passing.proofs.Reaching.{Reached, begins, ends, standing, read_by, by-met}
use Rattle.passing.proofs.Sound.{sound-here, sound-next, sound-over}
use Rattle.stored.specs.Shapes.{ends_shape, is_shape, stored_of}
use Rattle.stored.specs.Places.{values_part, stored_place_from, stored_place}
use Rattle.stored.specs.Inside.{id_of, is_wanted, passed_of, behind_from, sought_from, sought_of, next_of, Walked}
use Rattle.file.specs.declared.Walk.{Walk}
use Rattle.stored.specs.declared.Sought.{Sought}
use Rattle.stored.proofs.Counted.{shape-values}
use Rattle.stored.proofs.Stored.{stored-holds}
use Rattle.stored.proofs.Seeking.{over-no-shape, over-passed}

-- ---- a line that is no shape of its own ID is a shape of none; a shape has its own ID alone
module _ (s : Stepped) (id : ℤ) where
  own-id : is_shape id s ≡ true → id_of s ≡ id
  unfolding is_shape
  own-id e =
      same_z-true (id_of s) id
      (and_both (same_z (get_or s.cells 0 (pos 0)) (pos shape_kind)) (same_z (id_of s) id)
      (and_both (is_row s.found) (same_z (get_or s.cells 0 (pos 0)) (pos shape_kind) && same_z (id_of s) id) e).1).1

  no-shape : is_shape (id_of s) s ≡ false → is_shape id s ≡ false
  no-shape n = go (is_shape id s) refl
    where
      go : (b : Bool) → is_shape id s ≡ b → b ≡ false
      go true e = absurd (true≢false (sym (rw (own-id e) e) ∙ n))
      go false e = refl

  other-shape : same_z (id_of s) id ≡ false → is_shape id s ≡ false
  other-shape n = go (is_shape id s) refl
    where
      go : (b : Bool) → is_shape id s ≡ b → b ≡ false
      go true e = absurd (true≢false (sym (same_z-refl id) ∙ rw (own-id e) at n))
      go false e = refl

-- ---- the part that is found: by its ID, or because the next shape has it
abbrev none : Walk → Sought
none walk = record { part = no_part; id = pos 0; walk = walk }

sought-part : (id : ℤ) (walk : Walk) (ws : List (List ℕ)) → (sought_from false id walk ws).part ≡ stored_place_from id walk.state (suc walk.lines) walk.at ws
unfolding sought_from stored_place_from passed_of is_wanted
sought-part id walk [] = refl
sought-part id walk (w ∷ ws) =
    let s : Stepped = step_of walk.state (suc walk.lines) (bare_of w) in
    let at : ℕ = walk.at + length w in
    go (is_fault s.found) (is_shape id s) (values_part at ws) (id_of s) (behind_from (passed_of walk s at) ws) (sought_from false id (passed_of walk s at) ws) (sought-part id (passed_of walk s at) ws)
  where
    go : (f h : Bool) (v : Part) (own : ℤ) (on : Walk) (x : Sought) {p : Part} → x.part ≡ p
        → (cond f (none walk) (cond h (record { part = v; id = own; walk = on }) x)).part ≡ cond f no_part (cond h v p)
    go true h v own on x e = refl
    go false true v own on x e = refl
    go false false v own on x e = e

next-sought : (id : ℤ) (walk : Walk) (ws : List (List ℕ)) → same_z (sought_from true id walk ws).id id ≡ true
    → (sought_from true id walk ws).part ≡ stored_place_from id walk.state (suc walk.lines) walk.at ws
unfolding sought_from stored_place_from passed_of is_wanted
next-sought id walk [] e = refl
next-sought id walk (w ∷ ws) e =
    let s : Stepped = step_of walk.state (suc walk.lines) (bare_of w) in
    let at : ℕ = walk.at + length w in
    go s (is_fault s.found) (is_shape (id_of s) s) refl (values_part at ws) (behind_from (passed_of walk s at) ws) (sought_from true id (passed_of walk s at) ws)
    (next-sought id (passed_of walk s at) ws) e
  where
    go : (s : Stepped) (f h : Bool) → is_shape (id_of s) s ≡ h → (v : Part) (on : Walk) (x : Sought) {p : Part} → (same_z x.id id ≡ true → x.part ≡ p)
        → same_z (cond f (none walk) (cond h (record { part = v; id = id_of s; walk = on }) x)).id id ≡ true
        → (cond f (none walk) (cond h (record { part = v; id = id_of s; walk = on }) x)).part ≡ cond f no_part (cond (is_shape id s) v p)
    go s true h i v on x y e = refl
    go s false true i v on x y e = rw (rw (same_z-true (id_of s) id e) at i)
    go s false false i v on x y e = rw (no-shape s id i) (y e)

pub front-lines : (walk : Walk) → walk ≡ walk_start → walk.lines ≤ walk.at
unfolding walk_start
front-lines walk e = rw e (omega arith)

pub front-sound : (file : List ℕ) (walk : Walk) → walk ≡ walk_start → sound_of file ≡ true → sound_from walk.state (suc walk.lines) (lines_of (drop walk.at file)) ≡ true
unfolding walk_start sound_of
front-sound file walk e s = rw e s

pub front-part : (file : List ℕ) (id : ℤ) (walk : Walk) → walk ≡ walk_start → (x : Sought) → x ≡ sought_of file walk false id → x.part ≡ stored_place file id
unfolding sought_of walk_start stored_place
front-part file id walk e x p = rw (p, e) (sought-part id walk_start (whole_lines_of file))

-- ---- a walk that came from the front, line by line
pub walked_start : (file : List ℕ) (new : ℤ → Type 0) → sound_of file ≡ true → Walked file new walk_start
unfolding walk_start stored_place sound_of
walked_start file new s = record { lines = omega arith; sound = s; same = λ id e. refl }

-- with fewer IDs that count as new
pub walked-less : {file : List ℕ} {new fewer : ℤ → Type 0} {walk : Walk} → ((id : ℤ) → fewer id → new id) → Walked file new walk → Walked file fewer walk
walked-less f x = record { lines = x.lines; sound = x.sound; same = λ id h. x.same id (f id h) }

-- all that were new but this
abbrev pub But : (ℤ → Type 0) → ℤ → ℤ → Type 0
But new own id = new id × (same_z own id ≡ false)

-- among the values of a shape a line that does not end it is passed over
values-pass : (m : Mark) → ends_shape m ≡ false → passes_of Values m ≡ true
unfolding ends_shape
values-pass Blank e = absurd (true≢false e)
values-pass Comment e = refl
values-pass SectionLine e = absurd (true≢false e)
values-pass Plain e = refl

module _ (file : List ℕ) (new : ℤ → Type 0) where
  walked-turn : (walk : Walk) → Walked file new walk → (r : Line) → LineAt file walk.at r → WholeAt file walk.at r
      → (s : Stepped) → s ≡ step_of walk.state (suc walk.lines) (take (r.stop - walk.at) (drop walk.at file)) → is_fault s.found ≡ false
      → (fewer : ℤ → Type 0) → ((id : ℤ) → fewer id → new id × (is_shape id s ≡ false)) → Walked file fewer (passed_of walk s r.next)
  unfolding passed_of stored_place_from
  walked-turn walk x r l w s p e fewer f =
      let a = x.lines in
      let b = l.further in
      record {
        lines = omega arith;
        sound = rw (← p) at (sound-next l walk.state (suc walk.lines) x.sound);
        same = λ id h. rw (w.whole, w.bare, ← p, e, (f id h).1, whole-ends l) at (x.same id (f id h).0);
      }

  -- on over the values of a shape, each of which leaves the state as it is and is no shape
  values-walked : (at lines : ℕ) (st : State) → st.place ≡ Values → Walked file new (standing at lines st)
      → Walked file new (behind_from (standing at lines st) (whole_lines_of (drop at file)))
  unfolding behind_from whole_lines_of
  values-walked =
      by_lines file
      (λ at. (lines : ℕ) (st : State) → st.place ≡ Values → Walked file new (standing at lines st)
      → Walked file new (behind_from (standing at lines st) (whole_lines_of (drop at file))))
      (λ at h lines st v x. rw (drop_of_length-le file h) x)
      (λ at r l w next lines st v x. let walk : Walk = standing at lines st in
      rw (w.whole, w.bare, whole-ends l)
      (go walk x (ends_shape (mark_of (take (r.stop - at) (drop at file)))) refl (λ e. next (suc lines) st v (over walk x r l w (rw v (values-pass _ e))))))
    where
      over : (walk : Walk) → Walked file new walk → (r : Line) → LineAt file walk.at r → WholeAt file walk.at r
          → passes_of walk.state.place (mark_of (take (r.stop - walk.at) (drop walk.at file))) ≡ true
          → Walked file new (standing r.next (suc walk.lines) walk.state)
      over walk x r l w p =
          let s : Stepped = step_of walk.state (suc walk.lines) (take (r.stop - walk.at) (drop walk.at file)) in
          let o = sound-over l walk.state (suc walk.lines) x.sound p in
          rw (over-passed walk s o r.next) at
          (walked-turn walk x r l w s refl (sound-here l walk.state (suc walk.lines) x.sound) new (λ id n. (n, over-no-shape id walk.state s o)))

      go : (walk : Walk) → Walked file new walk → (b : Bool) {ends : Bool} → ends ≡ b → {on : Walk} → (ends ≡ false → Walked file new on) → Walked file new (cond b walk on)
      go walk x true e y = x
      go walk x false e y = y e

-- ---- a shape's row belongs to SHAPES, so none stands before that section
shape-given : (id : ℤ) (s : Stepped) → is_shape id s ≡ true → given_section s ≡ 9
unfolding is_shape given_section
shape-given id s e =
    let b = and_both (is_row s.found) (same_z (get_or s.cells 0 (pos 0)) (pos shape_kind) && same_z (id_of s) id) e in
    by-found s.found (get_or s.cells 0 (pos 0)) b.0 (and_both (same_z (get_or s.cells 0 (pos 0)) (pos shape_kind)) (same_z (id_of s) id) b.1).0
  where
    by-found : (f : Found) (kind : ℤ) → is_row f ≡ true → same_z kind (pos shape_kind) ≡ true → found_section f kind ≡ 9
    by-found Nothing kind e k = unfold is_row in absurd (true≢false (sym e))
    by-found Row kind e k = unfold found_section in unfold same_z in rw (same_z-true kind (pos shape_kind) k)
    by-found Definition kind e k = unfold is_row in absurd (true≢false (sym e))
    by-found (FoundFault fault) kind e k = unfold is_row in absurd (true≢false (sym e))

shape-elsewhere : (id : ℤ) (s : Stepped) → (given_section s ≡ 9 → ⊥) → is_shape id s ≡ false
shape-elsewhere id s o = go (is_shape id s) refl
  where
    go : (b : Bool) → is_shape id s ≡ b → b ≡ false
    go true e = absurd (o (shape-given id s e))
    go false e = refl

-- so a walk that stands where SHAPES begins has passed none
pub walked-met : (file : List ℕ) (new : ℤ → Type 0) → sound_of file ≡ true → Walked file new (met_walk 9 file)
unfolding met_walk walk_start sound_of
walked-met file new e =
    go
    (by-met 9 file (Walked file new)
    (λ walk away sound r l w x. unfold passed_of in
    let s : Stepped = read_by file walk r in
    walked-turn file new walk x r l w s refl (sound-here l walk.state (suc walk.lines) sound) new
    (λ id n. (n, shape-elsewhere id s (silent-line 9 (omega arith) walk.state away (suc walk.lines) (take (r.stop - walk.at) (drop walk.at file))).other)))
    0 0 fresh (λ (z : 0 ≡ 9). omega arith) e (walked_start file new e))
  where
    go : {m : Walk} → Reached file (Walked file new) m → Walked file new m
    go (begins h x) = x
    go (ends walk h x z) = rw z (walked_start file new e)

-- and on behind the next shape
module _ (file : List ℕ) (new : ℤ → Type 0) where
  sought-walked : (at lines : ℕ) (st : State) → Walked file new (standing at lines st) → (id : ℤ)
      → let x = sought_from true id (standing at lines st) (whole_lines_of (drop at file)) in Walked file (But new x.id) x.walk
  unfolding sought_from whole_lines_of passed_of is_wanted
  sought-walked =
      by_lines file
      (λ at. (lines : ℕ) (st : State) → Walked file new (standing at lines st) → (id : ℤ)
      → let x = sought_from true id (standing at lines st) (whole_lines_of (drop at file)) in Walked file (But new x.id) x.walk)
      (λ at h lines st x id. rw (drop_of_length-le file h) (walked-less (λ i n. n.0) x))
      (λ at r l w next lines st x id. let walk : Walk = standing at lines st in
      let line : List ℕ = take (r.stop - at) (drop at file) in
      let s : Stepped = step_of st (suc lines) line in
      let ws : List (List ℕ) = whole_lines_of (drop r.next file) in
      rw (w.whole, w.bare, whole-ends l)
      (go walk x s (is_fault s.found) (is_shape (id_of s) s) refl (values_part r.next ws) (passed_of walk s r.next) (behind_from (passed_of walk s r.next) ws)
      (sought_from true id (passed_of walk s r.next) ws) (walked-turn file new walk x r l w s refl)
      (λ i y. values-walked file (But new (id_of s)) r.next (suc lines) s.next (shape-values st (suc lines) (id_of s) line i) y) (λ y. next (suc lines) s.next y id)))
    where
      go : (walk : Walk) → Walked file new walk → (s : Stepped) (f h : Bool) → is_shape (id_of s) s ≡ h → (v : Part) (on behind : Walk) (y : Sought)
          → (f ≡ false → (fewer : ℤ → Type 0) → ((id : ℤ) → fewer id → new id × (is_shape id s ≡ false)) → Walked file fewer on)
          → (is_shape (id_of s) s ≡ true → Walked file (But new (id_of s)) on → Walked file (But new (id_of s)) behind)
          → (Walked file new on → Walked file (But new y.id) y.walk)
          → let x = cond f (none walk) (cond h (record { part = v; id = id_of s; walk = behind }) y) in Walked file (But new x.id) x.walk
      go walk x s true h i v on behind y a d b = walked-less (λ id n. n.0) x
      go walk x s false true i v on behind y a d b = d i (a refl (But new (id_of s)) (λ id n. (n.0, other-shape s id n.1)))
      go walk x s false false i v on behind y a d b = b (a refl new (λ id n. (n, no-shape s id i)))

-- ---- the next shape, from where a walk stands or from the front
module _ (file : List ℕ) (walk : Walk) (id : ℤ) where
  pub next-on : same_z (sought_of file walk true id).id id ≡ true → sought_of file walk true id ≡ next_of file walk id
  unfolding next_of
  next-on e = rw e

  pub next-front : same_z (sought_of file walk true id).id id ≡ false → (p : Part) → p ≡ stored_place file id → record { part = p; id = id; walk = walk } ≡ next_of file walk id
  unfolding next_of
  next-front e p q = rw (e, q)

-- of a walk that came from the front, for an ID that is new
module _ (file : List ℕ) (new : ℤ → Type 0) (walk : Walk) (x : Walked file new walk) (id : ℤ) (n : new id) where
  next-part : (next_of file walk id).part ≡ stored_place file id
  unfolding next_of sought_of
  next-part = go (same_z (sought_from true id walk (whole_lines_of (drop walk.at file))).id id) refl
    where
      go : (b : Bool) → same_z (sought_from true id walk (whole_lines_of (drop walk.at file))).id id ≡ b
          → (cond b (sought_from true id walk (whole_lines_of (drop walk.at file))) (record { part = stored_place file id; id = id; walk = walk })).part ≡ stored_place file id
      go true e = next-sought id walk (whole_lines_of (drop walk.at file)) e ∙ x.same id n
      go false e = refl

  pub next-holds : Holds file (next_of file walk id).part (stored_of file id)
  next-holds = rw next-part (stored-holds file id)

  pub next-walked : Walked file (But new id) (next_of file walk id).walk
  unfolding next_of sought_of
  next-walked = go (sought_from true id walk (whole_lines_of (drop walk.at file))) (sought-walked file new walk.at walk.lines walk.state x id) _ refl
    where
      go : (y : Sought) → Walked file (But new y.id) y.walk → (b : Bool) → same_z y.id id ≡ b
          → Walked file (But new id) (cond b y (record { part = stored_place file id; id = id; walk = walk })).walk
      go y w true e = rw (same_z-true y.id id e) at w
      go y w false e = walked-less (λ i m. m.0) x
