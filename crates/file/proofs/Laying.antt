-- Rows laid over a table, and found again by their number. Assumes nothing.
use Prim.Native.Nat.{ℕ, zero, suc, ◌+◌, ◌*◌, ◌/◌, ◌-◌, ◌≤◌, ◌<◌}
use mathlib.Core.Bool.{Bool, true, false, cond}
use mathlib.Core.List.{List, [], ◌∷◌, ◌++◌}
use mathlib.Core.Path.{◌≡◌, refl, sym, ap, ◌∙◌}
use native.Mathlib.Numerals.{add-one}
use native.Mathlib.Omega.{arith}
use borrow.Author.Tests.{lt-ltb, le-ltb}
use lib.Dec.{ltb}
use lib.IntN.{ℤ, pos}
use lib.ListN.{length, get_or, set, take, drop, length-set, drop_of_length-le}
use lib.Seq.{sets, length-sets, drop-cons}
use Rattle.text.specs.Lines.{lines_of}
use Rattle.text.specs.declared.Line.{Line}
use Rattle.text.proofs.Cut.{LineAt}
use Rattle.places.specs.declared.Found.{Found}
use Rattle.places.specs.declared.Found.TheVariants.{Nothing, Row, Definition, Fault as FoundFault}
use Rattle.places.specs.Places.{fresh}
use Rattle.grammar.specs.Steps.{step_of}
use Rattle.places.specs.declared.State.{State}
use Rattle.places.specs.declared.Stepped.{Stepped}
use Rattle.file.specs.Whole.{is_fault, is_row, row_count}
use Rattle.file.specs.Rows.{Placed, row_at, rows_from, rows_of, line_of, laid_row, laid_rows}
use Rattle.file.specs.Inside.{Laid}
use Rattle.file.proofs.Walking.{Within, within-start, within-turn, gathered-turn, gathered-stop, gathered-end}

-- ---- a row over a table
pub laid-room : (table : List ℤ) (k : ℕ) (cells : List ℤ) → k < length table / 12 → sets table (k * 12) cells ≡ laid_row table k cells
unfolding laid_row
laid-room table k cells h = rw (lt-ltb k (length table / 12) h)

pub laid_none : (table : List ℤ) (k : ℕ) (cells : List ℤ) → length table / 12 ≤ k → table ≡ laid_row table k cells
unfolding laid_row
laid_none table k cells h = rw (le-ltb k (length table / 12) h)

length-laid : (table : List ℤ) (k : ℕ) (cells : List ℤ) → length (laid_row table k cells) ≡ length table
unfolding laid_row
length-laid table k cells = go (ltb k (length table / 12))
  where
    go : (b : Bool) → length (cond b (sets table (k * 12) cells) table) ≡ length table
    go true = length-sets table (k * 12) cells
    go false = refl

pub length-rows : (table : List ℤ) (k : ℕ) (rs : List Placed) → length (laid_rows table k rs) ≡ length table
unfolding laid_rows
length-rows table k [] = refl
length-rows table k (r ∷ rs) = length-rows (laid_row table k r.cells) (suc k) rs ∙ length-laid table k r.cells

-- ---- rows, and further rows behind them
pub laid_more : (table : List ℤ) (k : ℕ) (rs ss : List Placed) → laid_rows (laid_rows table k rs) (k + length rs) ss ≡ laid_rows table k (rs ++ ss)
unfolding laid_rows
laid_more table k [] ss = let e : k + 0 ≡ k = omega arith in rw e
laid_more table k (r ∷ rs) ss = let e : k + suc (length rs) ≡ suc k + length rs = omega arith in rw e (laid_more (laid_row table k r.cells) (suc k) rs ss)

pub length_more : (rs ss : List Placed) → length (rs ++ ss) ≡ length rs + length ss
length_more [] ss = let e : length ss ≡ 0 + length ss = omega arith in e
length_more (r ∷ rs) ss = let h = length_more rs ss in let e : suc (length (rs ++ ss)) ≡ suc (length rs) + length ss = omega arith in e

-- ---- the row that a line gives
pub count-is : (n : ℕ) (l : List ℕ) (s : Stepped) → length (row_at n l s) ≡ row_count s.found
unfolding row_at is_row
count-is n l s = go s.found
  where
    go : (f : Found) → length {A = Placed} (cond (is_row f) (record { line = s.line; cells = s.cells } ∷ []) []) ≡ row_count f
    go Nothing = refl
    go Row = refl
    go Definition = refl
    go (FoundFault f) = refl

pub count_most : (f : Found) → row_count f ≤ 1
count_most Nothing = omega arith
count_most Row = omega arith
count_most Definition = omega arith
count_most (FoundFault f) = omega arith

pub row_one : (f : Found) → row_count f ≡ 1 → is_row f ≡ true
unfolding is_row
row_one Nothing e = absurd (omega arith)
row_one Row e = refl
row_one Definition e = absurd (omega arith)
row_one (FoundFault f) e = absurd (omega arith)

pub row-none : (f : Found) → (row_count f ≡ 1 → ⊥) → is_row f ≡ false
unfolding is_row
row-none Nothing e = refl
row-none Row e = absurd (e refl)
row-none Definition e = refl
row-none (FoundFault f) e = refl

-- the same by a count that is 0 or not
pub row_zero : (f : Found) → row_count f ≡ 0 → is_row f ≡ false
row_zero f e = row-none f (λ (q : row_count f ≡ 1). omega arith)

pub row-some : (f : Found) → (row_count f ≡ 0 → ⊥) → is_row f ≡ true
row-some f n = let m = count_most f in row_one f (omega arith)

module _ (k : ℕ) (s : Stepped) (count : ℕ) (p : count ≡ row_count s.found) (table : List ℤ) where
  pub laid_one : count ≡ 1 → (table' : List ℤ) → table' ≡ laid_row table k s.cells → Laid (row_at 0 [] s) k count table table'
  unfolding row_at laid_rows
  laid_one e table' q = record { count = p ∙ sym (count-is 0 [] s); rows = rw (row_one s.found (sym p ∙ e)) q }

  pub laid-nothing : (count ≡ 1 → ⊥) → Laid (row_at 0 [] s) k count table table
  unfolding row_at laid_rows
  laid-nothing e = record { count = p ∙ sym (count-is 0 [] s); rows = rw (row-none s.found (λ q. e (p ∙ q))) }

-- ---- a row's line
module _ (n : ℕ) (l : List ℕ) (s : Stepped) (rest : List Placed) (k : ℕ) where
  pub line-here : k < row_count s.found → s.line ≡ line_of (row_at n l s ++ rest) k
  unfolding row_at line_of
  line-here h = let m = count_most s.found in rw (row_one s.found (omega arith), let z : k ≡ 0 = omega arith in z)

  pub line-further : row_count s.found ≤ k → line_of rest (k - row_count s.found) ≡ line_of (row_at n l s ++ rest) k
  unfolding row_at line_of is_row
  line-further h = go s.found k h
    where
      go : (f : Found) (k : ℕ) → row_count f ≤ k → line_of rest (k - row_count f) ≡ line_of (cond (is_row f) (record { line = s.line; cells = s.cells } ∷ []) [] ++ rest) k
      go Nothing k h = let e : k - 0 ≡ k = omega arith in rw e
      go Row zero h = absurd (omega arith)
      go Row (suc k) h = let e : suc k - 1 ≡ k = omega arith in rw e
      go Definition k h = let e : k - 0 ≡ k = omega arith in rw e
      go (FoundFault f) k h = let e : k - 0 ≡ k = omega arith in rw e

pub line-none : (k : ℕ) → 0 ≡ line_of [] k
unfolding line_of
line-none k = refl

-- ---- a row's numbers, one after another
pub record Storing (table₀ table cells : List ℤ) (base j : ℕ) : Type 0 where
  pub size : length table ≡ length table₀
  pub rest : sets table (base + j) (drop j cells) ≡ sets table₀ base cells

pub store-turn : (table₀ table cells : List ℤ) (base j : ℕ) → Storing table₀ table cells base j → j < length cells
    → Storing table₀ (set table (base + j) (get_or cells j (pos 0))) cells base (j + 1)
store-turn table₀ table cells base j s h =
    let q : base + (j + 1) ≡ suc (base + j) = omega arith in
    record {
      size = length-set table (base + j) (get_or cells j (pos 0)) ∙ s.size;
      rest = rw (q, add-one j) (rw (drop-cons cells j (pos 0) h) at s.rest);
    }

pub store-end : (table₀ table cells : List ℤ) (base j : ℕ) → Storing table₀ table cells base j → length cells ≤ j → table ≡ sets table₀ base cells
store-end table₀ table cells base j s h = rw (drop_of_length-le cells h) at s.rest

-- ---- the loop that seeks a row's line
pub record LineWalk (file : List ℕ) (k : ℕ) (st : State) (at n left : ℕ) : Type 0 where
  pub within : Within file at n
  pub same : line_of (rows_from st n (lines_of (drop at file))) left ≡ line_of (rows_of file) k

pub seek-start : (file : List ℕ) (k : ℕ) (st : State) → st ≡ fresh → LineWalk file k st 0 1 k
unfolding rows_of
seek-start file k st e = record { within = within-start file; same = rw e }

module _ (file : List ℕ) (k : ℕ) (st : State) (at n left : ℕ) (w : LineWalk file k st at n left) where
  module _ (r : Line) (l : LineAt file at r) (s : Stepped) (p : s ≡ step_of st n (take (r.stop - at) (drop at file))) where
    pub seek-fault : is_fault s.found ≡ true → 0 ≡ line_of (rows_of file) k
    seek-fault e = line-none left ∙ ap (λ (rs : List Placed). line_of rs left) (gathered-stop file at r l st n s p row_at e) ∙ w.same

    module _ (e : is_fault s.found ≡ false) (count : ℕ) (c : count ≡ row_count s.found) where
      pub seek_found : left < count → s.line ≡ line_of (rows_of file) k
      seek_found h = line-here n _ s _ left (rw c at h) ∙ ap (λ (rs : List Placed). line_of rs left) (gathered-turn file at r l st n s p row_at e) ∙ w.same

      pub seek-turn : count ≤ left → LineWalk file k s.next r.next (n + 1) (left - count)
      seek-turn h =
          record {
            within = within-turn w.within l;
            same = rw c (line-further n _ s _ left (rw c at h)) ∙ ap (λ (rs : List Placed). line_of rs left) (gathered-turn file at r l st n s p row_at e) ∙ w.same;
          }

  pub seek-end : length file ≤ at → 0 ≡ line_of (rows_of file) k
  seek-end h = line-none left ∙ ap (λ (rs : List Placed). line_of rs left) (gathered-end file at h st n row_at) ∙ w.same
