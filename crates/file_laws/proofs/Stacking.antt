-- The shapes of a file without a fault stand one behind the other in the samples, from 0 to as many as were counted. Assumes nothing.
use Prim.Native.Nat.{ℕ, suc, ◌+◌, ◌*◌, ◌^◌, ◌≤◌}
use mathlib.Core.Bool.{cond}
use mathlib.Core.List.{List, [], ◌∷◌, ◌++◌}
use mathlib.Core.Path.{◌≡◌, refl}
use native.Mathlib.Omega.{arith}
use lib.ListN.{length}
use Rattle.text.specs.Lines.{lines_of}
use Rattle.signed.specs.Signed.{largest}
use Rattle.places.specs.Places.{fresh, ending_of}
use Rattle.places.specs.declared.Found.{Found}
use Rattle.places.specs.declared.Found.TheVariants.{Nothing, Row, Definition, Fault as FoundFault}
use Rattle.places.specs.declared.State.{State}
use Rattle.places.specs.declared.Stepped.{Stepped}
use Rattle.grammar.specs.Steps.{step_of}
use Rattle.file.specs.Whole.{Verdict, ended, judged, verdict_from, verdict_of, is_fault, is_row, gathered}
use Rattle.file.specs.Rows.{Placed, row_at, rows_from, rows_of}
use Rattle.file_laws.specs.Stacked.{Stacked, no_row, one-row}
use Rattle.file_laws.proofs.Steps.{HeadIn, Stack, given, step-fine}
use Rattle.file_laws.proofs.Ranges.{not-ended, at-end, lines-few}

-- ---- how far the samples go behind a line
module _ (st : State) (s : Stepped) (t : Stack st s) (small : st.samples + 1000000 ≤ largest) where
  after_line : (f : Found) → s.found ≡ f → s.next.samples ≡ st.samples + given f s.cells
  after_line f q = let few = t.some in rw (← q) (t.after (omega arith))

-- ---- what a line gives, in front of what the lines behind it give
module _ (st fin : State) (n : ℕ) (s : Stepped) (t : Stack st s) (rest : List Placed) (v : Verdict) (small : st.samples + 1000000 ≤ largest)
    (later : v ≡ ended fin → Stacked s.next.samples fin.samples rest) where
  turn : (f : Found) → s.found ≡ f → judged f n v ≡ ended fin
      → Stacked st.samples fin.samples (cond (is_fault f) [] (cond (is_row f) (record { line = s.line; cells = s.cells } ∷ []) [] ++ rest))
  unfolding judged is_fault is_row
  turn Nothing q e = let a = after_line st s t small Nothing q in let z : s.next.samples ≡ st.samples = omega arith in rw z at (later e)
  turn Definition q e = let a = after_line st s t small Definition q in let z : s.next.samples ≡ st.samples = omega arith in rw z at (later e)
  turn Row q e = one-row (λ g. t.place q g (omega arith)) (rw (after_line st s t small Row q) at (later e))
  turn (FoundFault f) q e = absurd (not-ended e)

stacked-from : (st fin : State) (n : ℕ) (ls : List (List ℕ)) → HeadIn st.place → st.samples + 1000000 * length ls ≤ largest → verdict_from st n ls ≡ ended fin
    → Stacked st.samples fin.samples (rows_from st n ls)
unfolding verdict_from gathered row_at
stacked-from st fin n [] h m e = rw (at-end st fin (ending_of st.place) e) no_row
stacked-from st fin n (l ∷ ls) h m e =
    let fine = step-fine st h n l in
    let few = fine.few in
    turn st fin n (step_of st n l) fine.stack _ _ (omega arith) (λ q. stacked-from (step_of st n l).next fin (suc n) ls fine.head (omega arith) q) (step_of st n l).found refl e

-- ---- "first sample's place from 0": a file of at most 2^24 bytes
pub rows-stacked : (file : List ℕ) (fin : State) → verdict_of file ≡ ended fin → length file ≤ 2 ^ 24 → Stacked 0 fin.samples (rows_of file)
unfolding verdict_of rows_of
rows-stacked file fin e h = let m = lines-few file in stacked-from fresh fin 1 (lines_of file) tt (omega arith) e
