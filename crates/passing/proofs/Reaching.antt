-- On the way to where a section begins no line stands in it. Assumes nothing.
use Prim.Native.Nat.{ℕ, suc, ◌+◌, ◌-◌, ◌≤◌, ◌<◌}
use mathlib.Core.Bool.{Bool, true, false, cond}
use mathlib.Core.List.{List}
use mathlib.Core.Logic.{◌⊎◌, inl, inr}
use mathlib.Core.Path.{◌≡◌, refl, sym, ap, ◌∙◌}
use native.Mathlib.Numerals.{add-one}
use native.Mathlib.Omega.{arith}
use borrow.Author.Tests.{eqb-false, eq-eqb, ne_eqb}
use lib.Dec.{eqb}
use lib.ListN.{length, take, drop}
use Rattle.text.specs.Lines.{lines_of, whole_lines_of}
use Rattle.text.specs.Marks.{mark_of}
use Rattle.text.specs.declared.Line.{Line}
use Rattle.text.proofs.Cases.{eq-or-ne}
use Rattle.text.proofs.Cut.{LineAt, WholeAt}
use Rattle.places.specs.Places.{section_in, fresh}
use Rattle.places.specs.declared.State.{State}
use Rattle.places.specs.declared.Stepped.{Stepped}
use Rattle.grammar.specs.Steps.{step_of}
use Rattle.grammar.proofs.Parts.{by_lines}
use Rattle.file.specs.Whole.{is_fault}
use Rattle.file.specs.Marks.{walk_start, met_from, met_walk}
use Rattle.file.specs.declared.Walk.{Walk}
use Rattle.file.proofs.Walking.{Within, within-start, within-turn}
use Rattle.file.proofs.Marking.{met-line, met-end}
use Rattle.passing.specs.Sound.{sound_from, sound_of}
use Rattle.passing.specs.Passing.{passes_of}
use Rattle.passing.proofs.Sound.{sound-here, sound-next, sound-over}

-- ---- what holds of a walk, and goes on to hold behind each line on the way, holds where section s begins, or else where the file ends
pub data Reached (file : List ℕ) (P : Walk → Type 0) (m : Walk) : Type 0 where
  begins : 1 ≤ m.at → P m → Reached file P m
  ends : (walk : Walk) → length file ≤ walk.at → P walk → m ≡ walk_start → Reached file P m

abbrev pub standing : ℕ → ℕ → State → Walk
standing at lines st = record { at = at; lines = lines; state = st }

-- what line a walk reads next, which ends at a place, gives
abbrev pub read_by : List ℕ → Walk → Line → Stepped
read_by file walk r = step_of walk.state (suc walk.lines) (take (r.stop - walk.at) (drop walk.at file))

module _ (s : ℕ) (file : List ℕ) (P : Walk → Type 0)
    (turn : (walk : Walk) → (section_in walk.state.place ≡ s → ⊥) → sound_from walk.state (suc walk.lines) (lines_of (drop walk.at file)) ≡ true
    → (r : Line) → LineAt file walk.at r → WholeAt file walk.at r → P walk → P (standing r.next (suc walk.lines) (read_by file walk r).next)) where
  pub by-met : (at lines : ℕ) (st : State) → (section_in st.place ≡ s → ⊥) → sound_from st (suc lines) (lines_of (drop at file)) ≡ true → P (standing at lines st)
      → Reached file P (met_from s st (suc lines) at (whole_lines_of (drop at file)))
  by-met =
      by_lines file
      (λ at. (lines : ℕ) (st : State) → (section_in st.place ≡ s → ⊥) → sound_from st (suc lines) (lines_of (drop at file)) ≡ true → P (standing at lines st)
      → Reached file P (met_from s st (suc lines) at (whole_lines_of (drop at file))))
      (λ at h lines st a x p. ends (standing at lines st) h p (met-end s file at h st (suc lines)))
      (λ at r l w next lines st a x p. let did : Stepped = read_by file (standing at lines st) r in
      let q = turn (standing at lines st) a x r l w p in
      let f = l.further in
      rw (met-line s l w st (suc lines) did refl (sound-here l st (suc lines) x), add-one (suc lines))
      (go (standing r.next (suc lines) did.next) (omega arith) q (eqb (section_in did.next.place) s) refl
      (λ b. next (suc lines) did.next b (sound-next l st (suc lines) x) q)))
    where
      go : (on : Walk) → 1 ≤ on.at → P on → (b : Bool) → eqb (section_in on.state.place) s ≡ b → {rest : Walk} → ((section_in on.state.place ≡ s → ⊥) → Reached file P rest)
          → Reached file P (cond b on rest)
      go on h q true e f = begins h q
      go on h q false e f = f (eqb-false _ _ e)

-- ---- a walk that has not come to where section s begins, which is m
pub record Before (s : ℕ) (file : List ℕ) (m : Walk) (st : State) (at n : ℕ) : Type 0 where
  pub counted : 1 ≤ n
  pub away : section_in st.place ≡ s → ⊥
  pub same : met_from s st n at (whole_lines_of (drop at file)) ≡ m

pub before-start : (s : ℕ) → 1 ≤ s → (file : List ℕ) (m : Walk) → m ≡ met_walk s file → (st : State) → st ≡ fresh → Before s file m st 0 1
unfolding met_walk
before-start s h file m q st e = record { counted = omega arith; away = rw e (λ (z : 0 ≡ s). omega arith); same = rw (e, q) }

module _ {s : ℕ} {file : List ℕ} {m : Walk} {st : State} {at n : ℕ} (b : Before s file m st at n) where
  pub before-end : length file ≤ at → walk_start ≡ m
  before-end h = sym (met-end s file at h st n) ∙ b.same

  module _ (r : Line) (l : LineAt file at r) (w : WholeAt file at r) (did : Stepped) (p : did ≡ step_of st n (take (r.stop - at) (drop at file))) (e : is_fault did.found ≡ false) where
    pub before-met : section_in did.next.place ≡ s → record { at = r.next; lines = n; state = did.next } ≡ m
    before-met h = rw (eq-eqb (section_in did.next.place) s h) at (sym (met-line s l w st n did p e)) ∙ b.same

    pub before-turn : (section_in did.next.place ≡ s → ⊥) → Before s file m did.next r.next (n + 1)
    before-turn h = let c = b.counted in record { counted = omega arith; away = h; same = rw (ne_eqb (section_in did.next.place) s h) at (sym (met-line s l w st n did p e)) ∙ b.same }

-- ---- a walk from the front, which comes to where section s begins, or has passed it
pub record Toward (s : ℕ) (file : List ℕ) (m : Walk) (st : State) (at n : ℕ) : Type 0 where
  pub ahead : (m.at ≡ 0) ⊎ (at < m.at) → Before s file m st at n

pub toward-start : (s : ℕ) → 1 ≤ s → (file : List ℕ) (m : Walk) → m ≡ met_walk s file → (st : State) → st ≡ fresh → Toward s file m st 0 1
toward-start s h file m q st e = record { ahead = λ x. before-start s h file m q st e }

-- where the section begins
pub toward-there : (s : ℕ) (file : List ℕ) (m : Walk) → 1 ≤ m.at → (n : ℕ) → Toward s file m m.state m.at n
toward-there s file m h n = record { ahead = λ x. absurd (go x) }
  where
    go : (m.at ≡ 0) ⊎ (m.at < m.at) → ⊥
    go (inl z) = omega arith
    go (inr q) = omega arith

module _ {s : ℕ} {file : List ℕ} {m : Walk} {st : State} {at n : ℕ} (t : Toward s file m st at n) (r : Line) (l : LineAt file at r) (w : WholeAt file at r) where
  pub toward-turn : (did : Stepped) → did ≡ step_of st n (take (r.stop - at) (drop at file)) → is_fault did.found ≡ false → Toward s file m did.next r.next (n + 1)
  toward-turn did p e = record { ahead = λ h. go h (t.ahead (sooner h)) (eq-or-ne (section_in did.next.place) s) }
    where
      sooner : (m.at ≡ 0) ⊎ (r.next < m.at) → (m.at ≡ 0) ⊎ (at < m.at)
      sooner (inl z) = inl z
      sooner (inr q) = let f = l.further in inr (omega arith)

      there : (m.at ≡ 0) ⊎ (r.next < m.at) → r.next ≡ m.at → ⊥
      there (inl z) q = let f = l.further in omega arith
      there (inr h) q = omega arith

      go : (m.at ≡ 0) ⊎ (r.next < m.at) → Before s file m st at n → (section_in did.next.place ≡ s) ⊎ (section_in did.next.place ≡ s → ⊥) → Before s file m did.next r.next (n + 1)
      go h b (inl q) = absurd (there h (ap (λ (x : Walk). x.at) (before-met b r l w did p e q)))
      go h b (inr q) = before-turn b r l w did p e q

-- ---- a line that is passed over leaves the state as it is
pub before-pass : {s : ℕ} {file : List ℕ} {m : Walk} {st : State} {at n : ℕ} → Before s file m st at n → (r : Line) → LineAt file at r → WholeAt file at r
    → sound_from st n (lines_of (drop at file)) ≡ true → passes_of st.place (mark_of (take (r.stop - at) (drop at file))) ≡ true → Before s file m st r.next (n + 1)
before-pass {file} {st} {at} {n} b r l w sound p =
    let o = sound-over l st n sound p in
    rw o.next at (before-turn b r l w (step_of st n (take (r.stop - at) (drop at file))) refl (sound-here l st n sound) (rw o.next b.away))

pub toward-pass : {s : ℕ} {file : List ℕ} {m : Walk} {st : State} {at n : ℕ} → Toward s file m st at n → (r : Line) → LineAt file at r → WholeAt file at r
    → sound_from st n (lines_of (drop at file)) ≡ true → passes_of st.place (mark_of (take (r.stop - at) (drop at file))) ≡ true → Toward s file m st r.next (n + 1)
toward-pass {file} {st} {at} {n} t r l w sound p =
    rw (sound-over l st n sound p).next at (toward-turn t r l w (step_of st n (take (r.stop - at) (drop at file))) refl (sound-here l st n sound))

-- ---- where a section begins, and how many lines are passed there
pub met-within : (s : ℕ) → 1 ≤ s → (file : List ℕ) → sound_of file ≡ true → Within file (met_walk s file).at ((met_walk s file).lines + 1)
unfolding met_walk walk_start sound_of
met-within s h file e =
    go
    (by-met s file (λ walk. Within file walk.at (walk.lines + 1)) (λ walk away sound r l w x. rw (← add-one walk.lines) (within-turn x l)) 0 0 fresh (λ (z : 0 ≡ s). omega arith) e
    (within-start file))
  where
    go : {m : Walk} → Reached file (λ walk. Within file walk.at (walk.lines + 1)) m → Within file m.at (m.lines + 1)
    go (begins h x) = x
    go (ends walk h x z) = rw z (within-start file)
