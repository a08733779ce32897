-- The loop over the lines of a file that lays its rows over a table. Assumes nothing.
use Rattle.file.specs.Outcome.{Scanned}
use Prim.Native.Nat.{ℕ, ◌+◌, ◌-◌, ◌≤◌}
use mathlib.Core.Bool.{true, false}
use mathlib.Core.List.{List, [], ◌++◌}
use mathlib.Core.Path.{◌≡◌, refl, ap, ◌∙◌}
use native.Mathlib.Nat.{zero-add}
use native.Mathlib.Omega.{arith}
use lib.IntN.{ℤ}
use lib.ListN.{length, take, drop}
use Rattle.text.specs.Lines.{lines_of}
use Rattle.text.specs.declared.Line.{Line}
use Rattle.text.proofs.Cut.{LineAt}
use Rattle.places.specs.Places.{fresh, ending_of}
use Rattle.grammar.specs.Steps.{step_of}
use Rattle.places.specs.declared.Found.{Found}
use Rattle.places.specs.declared.State.{State}
use Rattle.places.specs.declared.Stepped.{Stepped}
use Rattle.file.specs.Whole.{ended, judged, verdict_from, verdict_of, is_fault}
use Rattle.file.specs.Rows.{Placed, row_at, rows_from, rows_of, laid_rows, answer_of, scanned_of, Scanning}
use Rattle.file.specs.Inside.{Laid}
use Rattle.file.proofs.Walking.{Within, within-start, within-turn, verdict-turn, verdict-stop, verdict-end, gathered-turn, gathered-stop, gathered-end}
use Rattle.file.proofs.Laying.{length-rows, laid_more, length_more, count-is, count_most}

-- ---- what is left to read gives the verdict, the count and the table
pub record ScanWalk (file : List ℕ) (table₀ table : List ℤ) (st : State) (at n used : ℕ) : Type 0 where
  pub within : Within file at n
  pub few : used ≤ at
  pub long : length table ≡ length table₀
  pub verdict : verdict_from st n (lines_of (drop at file)) ≡ verdict_of file
  pub count : used + length (rows_from st n (lines_of (drop at file))) ≡ length (rows_of file)
  pub rows : laid_rows table used (rows_from st n (lines_of (drop at file))) ≡ laid_rows table₀ 0 (rows_of file)

pub scan-start : (file : List ℕ) (table : List ℤ) (st : State) → st ≡ fresh → ScanWalk file table table st 0 1 0
unfolding verdict_of rows_of
scan-start file table st e =
    record {
      within = within-start file;
      few = omega arith;
      long = refl;
      verdict = rw e;
      count = rw e (zero-add _);
      rows = rw e;
    }

-- no row left
laid_end : (file : List ℕ) (table₀ table : List ℤ) (used : ℕ) (rs : List Placed) → [] ≡ rs → laid_rows table used rs ≡ laid_rows table₀ 0 (rows_of file) → table ≡ laid_rows table₀ 0 (rows_of file)
unfolding laid_rows
laid_end file table₀ table used rs e h = rw (← e) at h

count-end : (file : List ℕ) (used : ℕ) (rs : List Placed) → [] ≡ rs → used + length rs ≡ length (rows_of file) → used ≡ length (rows_of file)
count-end file used rs e h = let l : 0 ≡ length rs = ap length e in omega arith

module _ (file : List ℕ) (table₀ table : List ℤ) (st : State) (at n used : ℕ) (w : ScanWalk file table₀ table st at n used) where
  -- the answer where no row is left
  told : (found : Found) (m : ℕ) → [] ≡ rows_from st n (lines_of (drop at file)) → judged found m (ended st) ≡ verdict_from st n (lines_of (drop at file)) → (a : Scanned)
      → a ≡ answer_of (judged found m (ended st)) used → Scanning file a table₀ table
  unfolding scanned_of
  told found m none v a q =
      record {
        answer = q ∙ rw (v ∙ w.verdict, count-end file used _ none w.count);
        rows = laid_end file table₀ table used _ none w.rows;
      }

  module _ (r : Line) (l : LineAt file at r) (s : Stepped) (p : s ≡ step_of st n (take (r.stop - at) (drop at file))) where
    pub scan-fault : is_fault s.found ≡ true → (a : Scanned) → a ≡ answer_of (judged s.found n (ended st)) used → Scanning file a table₀ table
    scan-fault e a q = told s.found n (gathered-stop file at r l st n s p row_at e) (verdict-stop file at r l st n s p e (ended st)) a q

    pub scan-turn : is_fault s.found ≡ false → (count : ℕ) (table' : List ℤ) → Laid (row_at 0 [] s) used count table table'
        → ScanWalk file table₀ table' s.next r.next (n + 1) (used + count)
    unfolding row_at
    scan-turn e count table' d =
        let rest = rows_from s.next (n + 1) (lines_of (drop r.next file)) in
        let g = gathered-turn file at r l st n s p row_at e in
        let m = length_more (row_at 0 [] s) rest in
        let c = d.count in
        let h = w.count in
        let k : length (row_at 0 [] s ++ rest) ≡ length (rows_from st n (lines_of (drop at file))) = ap length g in
        let few = w.few in
        let later = l.further in
        let one = count-is 0 [] s in
        let most = count_most s.found in
        record {
          within = within-turn w.within l;
          few = omega arith;
          long = ap length d.rows ∙ length-rows table used (row_at 0 [] s) ∙ w.long;
          verdict = verdict-turn file at r l st n s p e ∙ w.verdict;
          count = omega arith;
          rows = rw (d.rows, d.count) (laid_more table used (row_at 0 [] s) rest ∙ ap (laid_rows table used) g ∙ w.rows);
        }

  pub scan-end : length file ≤ at → (found : Found) → found ≡ ending_of st.place → (a : Scanned) → a ≡ answer_of (judged found 0 (ended st)) used → Scanning file a table₀ table
  scan-end h found e a q = told found 0 (gathered-end file at h st n row_at) (ap (λ (f : Found). judged f 0 (ended st)) e ∙ verdict-end file at h st n) a q
