-- Things sought line by line, whatever it is that lines give. Assumes nothing.
use Prim.Native.Nat.{ℕ, ◌+◌, ◌-◌, ◌≤◌}
use mathlib.Core.Bool.{true, false}
use mathlib.Core.List.{List, [], ◌++◌}
use mathlib.Core.Path.{◌≡◌, sym, ap, ◌∙◌}
use native.Mathlib.Omega.{arith}
use lib.ListN.{length, take, drop}
use Rattle.text.specs.Lines.{lines_of}
use Rattle.text.specs.declared.Line.{Line}
use Rattle.text.proofs.Cut.{LineAt}
use Rattle.grammar.specs.Steps.{step_of}
use Rattle.places.specs.declared.State.{State}
use Rattle.places.specs.declared.Stepped.{Stepped}
use Rattle.file.specs.Whole.{is_fault, gathered}
use Rattle.file.proofs.Walking.{gathered-turn, gathered-stop, gathered-end}

-- ---- the loop that seeks one thing from a place on: what is left gives the answer
pub record SeekWalk {A : Type 0} (pick : ℕ → List ℕ → Stepped → List A) (next : List A → ℕ) (file : List ℕ) (a : ℕ) (st : State) (at n : ℕ) : Type 0 where
  pub number : n ≤ at + 1
  pub same : next (gathered pick st n (lines_of (drop at file))) ≡ a

module _ {A : Type 0} {pick : ℕ → List ℕ → Stepped → List A} {next : List A → ℕ} {file : List ℕ} {a : ℕ} {st : State} {at n : ℕ} (w : SeekWalk pick next file a st at n) where
  module _ (r : Line) (l : LineAt file at r) (s : Stepped) (p : s ≡ step_of st n (take (r.stop - at) (drop at file))) where
    pub seek-fault : next [] ≡ 0 → is_fault s.found ≡ true → 0 ≡ a
    seek-fault z e = sym z ∙ ap next (gathered-stop file at r l st n s p pick e) ∙ w.same

    module _ (e : is_fault s.found ≡ false) where
      pub seek_hit : (line : ℕ) → ((rest : List A) → line ≡ next (pick n (take (r.stop - at) (drop at file)) s ++ rest)) → line ≡ a
      seek_hit line h = h _ ∙ ap next (gathered-turn file at r l st n s p pick e) ∙ w.same

      pub seek-turn : ((rest : List A) → next rest ≡ next (pick n (take (r.stop - at) (drop at file)) s ++ rest)) → SeekWalk pick next file a s.next r.next (n + 1)
      seek-turn h = let m = w.number in let f = l.further in record { number = omega arith; same = h _ ∙ ap next (gathered-turn file at r l st n s p pick e) ∙ w.same }

  pub seek-end : next [] ≡ 0 → length file ≤ at → 0 ≡ a
  seek-end z h = sym z ∙ ap next (gathered-end file at h st n pick) ∙ w.same
