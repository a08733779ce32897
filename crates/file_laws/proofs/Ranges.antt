-- The rows of a file without a fault are in range, by the edition that it ends with. Assumes nothing.
use Prim.Native.Nat.{ℕ, suc, ◌+◌, ◌*◌, ◌≤◌}
use mathlib.Core.Bool.{Bool, true, false, cond, ◌&&◌}
use mathlib.Core.List.{List, [], ◌∷◌, ◌++◌}
use mathlib.Core.Path.{◌≡◌, refl, sym, ap, ◌∙◌}
use native.Mathlib.Omega.{arith}
use lib.Dec.{eqb}
use lib.ListN.{length}
use Rattle.text.specs.Lines.{starts_lf, onto, lines_of}
use Rattle.shape.specs.declared.Edition.{Edition}
use Rattle.places.specs.Places.{fresh, ending_of}
use Rattle.grammar.specs.Steps.{step_of}
use Rattle.file_laws.specs.Ranges.{is_past, AllIn, no_rows, one_more}
use Rattle.places.specs.declared.Fault.{Fault}
use Rattle.places.specs.declared.Found.{Found}
use Rattle.places.specs.declared.Found.TheVariants.{Nothing, Row, Definition, Fault as FoundFault}
use Rattle.places.specs.declared.State.{State}
use Rattle.places.specs.declared.Stepped.{Stepped}
use Rattle.file_laws.proofs.Steps.{HeadIn, Fine, step-fine}
use Rattle.file.specs.Whole.{Verdict, ended, stopped, judged, verdict_from, verdict_of, is_fault, is_row, gathered}
use Rattle.file.specs.Rows.{Placed, row_at, rows_from, rows_of}

pub not-ended : {f : Fault} {n : ℕ} {st : State} → stopped f n ≡ ended st → ⊥
not-ended e = let z : ◌≡◌ {A = ℕ} 0 1 = cc in omega arith

same_end : {a b : State} → ended a ≡ ended b → a ≡ b
same_end e = cc

-- what is left of a file
record Left (edition : Edition) (st : State) (rs : List Placed) : Type 0 where
  rows : AllIn edition rs
  same : is_past st.place ≡ true → st.edition ≡ edition

pub at-end : (st fin : State) (f : Found) → judged f 0 (ended st) ≡ ended fin → st ≡ fin
unfolding judged
at-end st fin Nothing e = same_end e
at-end st fin Row e = same_end e
at-end st fin Definition e = same_end e
at-end st fin (FoundFault k) e = absurd (not-ended e)

module _ (st fin : State) (n : ℕ) (l : List ℕ) (s : Stepped) (fine : Fine st s) (rest : List Placed) (v : Verdict) (later : v ≡ ended fin → Left fin.edition s.next rest) where
  turn : (f : Found) → s.found ≡ f → judged f n v ≡ ended fin
      → Left fin.edition st (cond (is_fault f) [] (cond (is_row f) (record { line = s.line; cells = s.cells } ∷ []) [] ++ rest))
  unfolding judged is_fault is_row
  turn Nothing q e = let k = later e in record { rows = k.rows; same = λ p. sym (fine.same p) ∙ k.same (fine.past p) }
  turn Definition q e = let k = later e in record { rows = k.rows; same = λ p. sym (fine.same p) ∙ k.same (fine.past p) }
  turn Row q e =
      let k = later e in
      let same : is_past st.place ≡ true → st.edition ≡ fin.edition = λ p. sym (fine.same p) ∙ k.same (fine.past p) in
      record { rows = one_more (rw (same (fine.known q)) at (fine.row q)) k.rows; same = same }
  turn (FoundFault f) q e = absurd (not-ended e)

left : (st fin : State) (n : ℕ) (ls : List (List ℕ)) → HeadIn st.place → verdict_from st n ls ≡ ended fin → Left fin.edition st (rows_from st n ls)
unfolding verdict_from gathered row_at
left st fin n [] h e = record { rows = no_rows; same = λ p. ap (λ (x : State). x.edition) (at-end st fin (ending_of st.place) e) }
left st fin n (l ∷ ls) h e =
    let fine = step-fine st h n l in
    turn st fin n l (step_of st n l) fine _ _ (λ q. left (step_of st n l).next fin (suc n) ls fine.head q) (step_of st n l).found refl e

-- ---- "each number satisfies its column's form"
pub rows-in-range : (file : List ℕ) (st : State) → verdict_of file ≡ ended st → AllIn st.edition (rows_of file)
unfolding verdict_of rows_of
rows-in-range file st e = (left fresh st 1 (lines_of file) tt e).rows

-- ---- the samples of a file's shapes are at most 10^6 for each line, so that counting them stops in no file that is not BIG
few-from : (st fin : State) (n : ℕ) (ls : List (List ℕ)) → HeadIn st.place → verdict_from st n ls ≡ ended fin → fin.samples ≤ st.samples + 1000000 * length ls
unfolding verdict_from judged
few-from st fin n [] h e = let q : st.samples ≡ fin.samples = ap (λ (x : State). x.samples) (at-end st fin (ending_of st.place) e) in omega arith
few-from st fin n (l ∷ ls) h e =
    let fine = step-fine st h n l in
    let m = fine.few in
    let k = few-from (step_of st n l).next fin (suc n) ls fine.head (on (step_of st n l).found e) in
    omega arith
  where
    on : (f : Found) {v : Verdict} → judged f n v ≡ ended fin → v ≡ ended fin
    on Nothing e = e
    on Row e = e
    on Definition e = e
    on (FoundFault f) e = absurd (not-ended e)

pub lines-few : (t : List ℕ) → length (lines_of t) ≤ length t
unfolding lines_of onto
lines-few [] = omega arith
lines-few (c ∷ s) = go (eqb c 10) (eqb c 13 && starts_lf s) (lines-few s)
  where
    onto-few : (ls : List (List ℕ)) → length ls ≤ length s → length (onto c ls) ≤ suc (length s)
    onto-few [] h = omega arith
    onto-few (l ∷ ls) h = let k : suc (length ls) ≤ length s = h in omega arith

    go : (a b : Bool) → length (lines_of s) ≤ length s → length (cond a ([] ∷ lines_of s) (cond b (lines_of s) (onto c (lines_of s)))) ≤ suc (length s)
    go true b h = omega arith
    go false true h = omega arith
    go false false h = onto-few (lines_of s) h

pub samples-few : (file : List ℕ) (st : State) → verdict_of file ≡ ended st → st.samples ≤ 1000000 * length file
unfolding verdict_of
samples-few file st e = let k = few-from fresh st 1 (lines_of file) tt e in let m = lines-few file in omega arith
