-- From line to line: what is left to walk gives the whole result. Assumes nothing.
use Prim.Native.Nat.{ℕ, ◌+◌, ◌-◌, ◌≤◌}
use mathlib.Core.Bool.{true, false, true≢false}
use mathlib.Core.List.{List, [], ◌++◌}
use mathlib.Core.Path.{◌≡◌, refl, sym}
use native.Mathlib.Numerals.{add-one}
use native.Mathlib.Omega.{arith}
use lib.ListN.{length, take, drop, drop_of_length-le}
use Rattle.text.specs.Lines.{lines_of}
use Rattle.text.specs.declared.Line.{Line}
use Rattle.text.proofs.Cut.{LineAt}
use Rattle.places.specs.Places.{ending_of}
use Rattle.grammar.specs.Steps.{step_of}
use Rattle.places.specs.declared.Found.{Found}
use Rattle.places.specs.declared.Found.TheVariants.{Nothing, Row, Definition, Fault as FoundFault}
use Rattle.places.specs.declared.State.{State}
use Rattle.places.specs.declared.Stepped.{Stepped}
use Rattle.file.specs.Whole.{Verdict, ended, judged, verdict_from, is_fault, gathered}

-- ---- bounds that hold at every line
pub record Within (file : List ℕ) (at n : ℕ) : Type 0 where
  pub inside : at ≤ length file
  pub number : n ≤ at + 1

pub within-start : (file : List ℕ) → Within file 0 1
within-start file = record { inside = omega arith; number = omega arith }

pub within-turn : {file : List ℕ} {at n : ℕ} {r : Line} → Within file at n → LineAt file at r → Within file r.next (n + 1)
within-turn w l = let a = w.number in let b = l.further in record { inside = l.inside; number = omega arith }

-- ---- what was found at a line
judged-not : (found : Found) (n : ℕ) (rest : Verdict) → is_fault found ≡ false → judged found n rest ≡ rest
unfolding judged is_fault
judged-not Nothing n rest e = refl
judged-not Row n rest e = refl
judged-not Definition n rest e = refl
judged-not (FoundFault f) n rest e = absurd (true≢false e)

judged-fault : (found : Found) (n : ℕ) (v w : Verdict) → is_fault found ≡ true → judged found n v ≡ judged found n w
unfolding judged is_fault
judged-fault Nothing n v w e = absurd (true≢false (sym e))
judged-fault Row n v w e = absurd (true≢false (sym e))
judged-fault Definition n v w e = absurd (true≢false (sym e))
judged-fault (FoundFault f) n v w e = refl

-- ---- one line cut off, which was read as s
module _ (file : List ℕ) (at : ℕ) (r : Line) (l : LineAt file at r) (st : State) (n : ℕ) (s : Stepped) (p : s ≡ step_of st n (take (r.stop - at) (drop at file))) where
  abbrev line_here : List ℕ
  line_here = take (r.stop - at) (drop at file)

  pub verdict-turn : is_fault s.found ≡ false → verdict_from s.next (n + 1) (lines_of (drop r.next file)) ≡ verdict_from st n (lines_of (drop at file))
  unfolding verdict_from
  verdict-turn e = rw (l.line, ← p, add-one n) (sym (judged-not s.found n _ e))

  pub verdict-stop : is_fault s.found ≡ true → (v : Verdict) → judged s.found n v ≡ verdict_from st n (lines_of (drop at file))
  unfolding verdict_from
  verdict-stop e v = rw (l.line, ← p) (judged-fault s.found n v _ e)

  module _ {A : Type 0} (pick : ℕ → List ℕ → Stepped → List A) where
    pub gathered-turn : is_fault s.found ≡ false
        → pick n line_here s ++ gathered pick s.next (n + 1) (lines_of (drop r.next file)) ≡ gathered pick st n (lines_of (drop at file))
    unfolding gathered
    gathered-turn e = rw (l.line, ← p, e, add-one n)

    pub gathered-stop : is_fault s.found ≡ true → [] ≡ gathered pick st n (lines_of (drop at file))
    unfolding gathered
    gathered-stop e = rw (l.line, ← p, e)

-- ---- no line left
module _ (file : List ℕ) (at : ℕ) (h : length file ≤ at) (st : State) (n : ℕ) where
  pub verdict-end : judged (ending_of st.place) 0 (ended st) ≡ verdict_from st n (lines_of (drop at file))
  unfolding verdict_from lines_of
  verdict-end = rw (drop_of_length-le file h)

  pub gathered-end : {A : Type 0} (pick : ℕ → List ℕ → Stepped → List A) → [] ≡ gathered pick st n (lines_of (drop at file))
  unfolding gathered lines_of
  gathered-end pick = rw (drop_of_length-le file h)
