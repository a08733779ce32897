-- Where a section begins, noted line by line: what is noted, or else what the lines that are left give, is where it begins. Assumes nothing.
use Prim.Native.Nat.{ℕ, ◌+◌, ◌-◌, ◌≤◌}
use mathlib.Core.Bool.{Bool, true, false, cond, true≢false}
use mathlib.Core.List.{List}
use mathlib.Core.Logic.{◌⊎◌, inl, inr}
use mathlib.Core.Path.{◌≡◌, refl, sym, ◌∙◌}
use native.Mathlib.Numerals.{add-one}
use native.Mathlib.Omega.{arith}
use borrow.Author.Tests.{eqb-true, ne_eqb}
use lib.Dec.{eqb}
use lib.IntN.{ℤ}
use lib.ListN.{length, take, drop, drop_of_length-le}
use Rattle.text.specs.Lines.{whole_lines_of}
use Rattle.text.specs.declared.Line.{Line}
use Rattle.text.proofs.Cut.{LineAt, WholeAt}
use Rattle.places.specs.Places.{section_in, fresh}
use Rattle.places.specs.declared.State.{State}
use Rattle.places.specs.declared.Stepped.{Stepped}
use Rattle.grammar.specs.Steps.{step_of}
use Rattle.grammar.proofs.Parts.{whole-ends}
use Rattle.file.specs.Whole.{is_fault}
use Rattle.file.specs.Marks.{walk_start, met_from, met_walk}
use Rattle.file.specs.Inside.{is_met}
use Rattle.file.specs.declared.Walk.{Walk}
use Rattle.file.proofs.Reading.{ScanWalk}

-- ---- a walk at the front
pub front-is : (st : State) → st ≡ fresh → record { at = 0; lines = 0; state = st } ≡ walk_start
unfolding walk_start
front-is st e = rw e

-- ---- what the first line that is left gives, which was read as r, and what is given where no line is left
module _ (s : ℕ) {file : List ℕ} {at : ℕ} {r : Line} (l : LineAt file at r) (w : WholeAt file at r) (st : State) (n : ℕ) (did : Stepped) (p : did ≡ step_of st n (take (r.stop - at) (drop at file))) where
  pub met-fault : is_fault did.found ≡ true → met_from s st n at (whole_lines_of (drop at file)) ≡ walk_start
  unfolding met_from
  met-fault e = rw (w.whole, w.bare, ← p, e)

  pub met-line : is_fault did.found ≡ false
      → met_from s st n at (whole_lines_of (drop at file))
      ≡ cond (eqb (section_in did.next.place) s) (record { at = r.next; lines = n; state = did.next }) (met_from s did.next (n + 1) r.next (whole_lines_of (drop r.next file)))
  unfolding met_from
  met-line e = rw (w.whole, w.bare, ← p, e, whole-ends l, add-one n)

pub met-end : (s : ℕ) (file : List ℕ) (at : ℕ) → length file ≤ at → (st : State) (n : ℕ) → met_from s st n at (whole_lines_of (drop at file)) ≡ walk_start
unfolding met_from whole_lines_of
met-end s file at h st n = rw (drop_of_length-le file h)

-- ---- the loop that notes it
pub record MarkWalk (s : ℕ) (file : List ℕ) (noted : Walk) (st : State) (at n : ℕ) : Type 0 where
  pub unmet : noted.at ≡ 0 → noted ≡ walk_start
  pub same : cond (eqb noted.at 0) (met_from s st n at (whole_lines_of (drop at file))) noted ≡ met_walk s file

pub mark-start : (s : ℕ) (file : List ℕ) (noted : Walk) → noted ≡ walk_start → (st : State) → st ≡ fresh → MarkWalk s file noted st 0 1
unfolding walk_start met_walk
mark-start s file noted q st e = record { unmet = λ z. q; same = rw (q, e) }

module _ {s : ℕ} {file : List ℕ} {noted : Walk} {st : State} {at n : ℕ} (m : MarkWalk s file noted st at n) where
  -- nothing further is met
  pub mark-stop : met_from s st n at (whole_lines_of (drop at file)) ≡ walk_start → noted ≡ met_walk s file
  mark-stop e = go (eqb noted.at 0) refl m.same
    where
      go : (b : Bool) → eqb noted.at 0 ≡ b → cond b (met_from s st n at (whole_lines_of (drop at file))) noted ≡ met_walk s file → noted ≡ met_walk s file
      go true q h = m.unmet (eqb-true _ _ q) ∙ sym e ∙ h
      go false q h = h

  module _ {r : Line} (l : LineAt file at r) (w : WholeAt file at r) (did : Stepped) (p : did ≡ step_of st n (take (r.stop - at) (drop at file))) where
    pub mark-fault : is_fault did.found ≡ true → noted ≡ met_walk s file
    mark-fault e = mark-stop (met-fault s l w st n did p e)

    -- a line that leads to the section, or does not
    module _ (e : is_fault did.found ≡ false) where
      abbrev rest : Walk
      rest = met_from s did.next (n + 1) r.next (whole_lines_of (drop r.next file))

      abbrev behind : Walk
      behind = record { at = r.next; lines = n; state = did.next }

      pub mark-met : is_met s noted.at did.next ≡ true → MarkWalk s file behind did.next r.next (n + 1)
      unfolding is_met
      mark-met h = go (eqb noted.at 0) h m.same
        where
          later : r.next ≡ 0 → ⊥
          later z = let f = l.further in omega arith

          go : (b : Bool) → cond b (eqb (section_in did.next.place) s) false ≡ true → cond b (met_from s st n at (whole_lines_of (drop at file))) noted ≡ met_walk s file
              → MarkWalk s file behind did.next r.next (n + 1)
          go true x y = record { unmet = λ z. absurd (later z); same = rw (ne_eqb r.next 0 later) (rw (met-line s l w st n did p e, x) at y) }
          go false x y = absurd (true≢false (sym x))

      pub mark_on : is_met s noted.at did.next ≡ false → MarkWalk s file noted did.next r.next (n + 1)
      unfolding is_met
      mark_on h = record { unmet = m.unmet; same = go (eqb noted.at 0) h m.same }
        where
          go : (b : Bool) → cond b (eqb (section_in did.next.place) s) false ≡ false → cond b (met_from s st n at (whole_lines_of (drop at file))) noted ≡ met_walk s file
              → cond b rest noted ≡ met_walk s file
          go true x y = rw (met-line s l w st n did p e, x) at y
          go false x y = y

      pub mark-turn : (b : Bool) → b ≡ is_met s noted.at did.next → (noted' : Walk) → ((b ≡ true) × (noted' ≡ behind)) ⊎ ((b ≡ false) × (noted' ≡ noted))
          → MarkWalk s file noted' did.next r.next (n + 1)
      mark-turn b q noted' (inl x) = rw x.1 (mark-met (sym q ∙ x.0))
      mark-turn b q noted' (inr y) = rw y.1 (mark_on (sym q ∙ y.0))

  pub mark-end : length file ≤ at → noted ≡ met_walk s file
  mark-end h = mark-stop (met-end s file at h st n)

-- ---- as it is asked
module _ (s noted : ℕ) (st : State) where
  pub noted-before : (noted ≡ 0 → ⊥) → false ≡ is_met s noted st
  unfolding is_met
  noted-before n = rw (ne_eqb noted 0 n)

  pub not_noted : noted ≡ 0 → (section : ℕ) → section ≡ section_in st.place → eqb section s ≡ is_met s noted st
  unfolding is_met
  not_noted e section q = rw (e, q)

-- ---- both sections beside the rows
pub record MarkedWalk (file : List ℕ) (table₀ table : List ℤ) (names shapes : Walk) (st : State) (at n used : ℕ) : Type 0 where
  pub scan : ScanWalk file table₀ table st at n used
  pub names-met : MarkWalk 8 file names st at n
  pub shapes-met : MarkWalk 9 file shapes st at n
