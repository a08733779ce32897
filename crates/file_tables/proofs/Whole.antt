-- The tables of a file without a fault: every row is in range, and the samples of its shapes stand apart. Assumes nothing.
use Prim.Native.Nat.{ℕ, zero, suc, ◌+◌, ◌/◌, ◌^◌, ◌≤◌, ◌<◌}
use mathlib.Core.Bool.{true, cond}
use mathlib.Core.List.{List, [], ◌∷◌, ◌++◌}
use mathlib.Core.Logic.{inl, ⊎_elim}
use mathlib.Core.Path.{◌≡◌, refl, sym, ap, ◌∙◌}
use native.Mathlib.Omega.{arith}
use lib.IntN.{ℤ, pos, nat_abs}
use lib.ListN.{length, get_or, get_or-eq_default}
use lib.Seq.{length-sets}
use Rattle.text.specs.Lines.{lines_of}
use Rattle.text.proofs.Cases.{lt-or-ge}
use Rattle.shape.specs.declared.Edition.{Edition}
use Rattle.columns.specs.Rows.{blank, padded}
use Rattle.places.specs.Places.{fresh}
use Rattle.places.specs.declared.Found.{Found}
use Rattle.places.specs.declared.Found.TheVariants.{Nothing, Row, Definition, Fault}
use Rattle.places.specs.declared.State.{State}
use Rattle.grammar.specs.Steps.{step_of}
use Rattle.tables.specs.Tables.{number_at}
use Rattle.tables.proofs.Numbers.{number-beyond}
use Rattle.file.specs.Whole.{ended, verdict_of, is_fault, is_row, gathered}
use Rattle.file.specs.Rows.{Placed, row_at, rows_from, rows_of, laid_rows}
use Rattle.sampling.specs.Sampling.{is_shape_row, num_at, place_at, Apart}
use Rattle.file_laws.specs.Ranges.{RowIn, by-columns, extension, label, shape, AllIn, no_rows, one_more}
use Rattle.file_laws.specs.Stacked.{is_shape_of, shape_count, Stacked}
use Rattle.file_laws.specs.Stacked as stacked
use Rattle.file_laws.proofs.Steps.{HeadIn, step-fine}
use Rattle.file_laws.proofs.Ranges.{rows-in-range}
use Rattle.file_laws.proofs.Stacking.{rows-stacked}
use Rattle.exact_lengths.specs.Tables.{RowHeld}
use Rattle.file_tables.specs.Tables.{cells_of}
use Rattle.file_tables.proofs.Laid.{Twelve, no_row, one-row, row-held}

-- ---- rows in range have twelve numbers
padded-long : (kind : ℕ) (vs : List ℤ) → length (padded kind vs) ≡ 12
unfolding padded
padded-long kind vs = length-sets blank 0 (pos kind ∷ vs)

row-long : {e : Edition} {cells : List ℤ} → RowIn e cells → length cells ≡ 12
row-long (by-columns form vs r) = padded-long _ vs
row-long (extension type code a b c) = padded-long _ _
row-long (label id flag n v a b c d f g) = padded-long _ _
row-long (shape id num first a b c d f) = padded-long _ _

-- and so has each row of a file, also of one that is at fault further on
twelve-from : (st : State) (n : ℕ) (ls : List (List ℕ)) → HeadIn st.place → Twelve (rows_from st n ls)
unfolding gathered row_at is_fault is_row
twelve-from st n [] h = no_row
twelve-from st n (l ∷ ls) h =
    let fine = step-fine st h n l in
    go (step_of st n l).found (λ e. row-long (fine.row e)) (twelve-from (step_of st n l).next (suc n) ls fine.head)
  where
    go : (f : Found) → (f ≡ Row → length (step_of st n l).cells ≡ 12) → {rs : List Placed} → Twelve rs
        → Twelve (cond (is_fault f) [] (cond (is_row f) (record { line = (step_of st n l).line; cells = (step_of st n l).cells } ∷ []) [] ++ rs))
    go Nothing w t = t
    go Row w t = one-row (w refl) t
    go Definition w t = t
    go (Fault f) w t = no_row

pub rows-twelve : (file : List ℕ) → Twelve (rows_of file)
unfolding rows_of
rows-twelve file = twelve-from fresh 1 (lines_of file) tt

row_in : {e : Edition} {rs : List Placed} → AllIn e rs → (k : ℕ) → k < length rs → RowIn e (cells_of rs k)
unfolding cells_of
row_in no_rows k h = absurd (omega arith)
row_in (one_more r rs) zero h = r
row_in (one_more r rs) (suc k) h = row_in rs k (omega arith)

-- ---- each row of the table is in range
pub rows-held : (file : List ℕ) (st : State) (table : List ℤ) → verdict_of file ≡ ended st → length (rows_of file) ≤ length table / 12 → (k : ℕ) → k < length (rows_of file)
    → RowHeld st.edition (laid_rows table 0 (rows_of file)) k
rows-held file st table e m k h =
    let all = rows-in-range file st e in
    let sound = row_in all k h in
    record {
      cells = cells_of (rows_of file) k;
      sound = sound;
      numbers =
          λ c. ⊎_elim (λ (l : c < 12). row-held (rows_of file) (rows-twelve file) table m k c h l)
          (λ (l : 12 ≤ c). sym (number-beyond (laid_rows table 0 (rows_of file)) k c l) ∙ sym (get_or-eq_default (cells_of (rows_of file) k) (pos 0) (rw (row-long sound) l))) (lt-or-ge c 12);
    }

-- ---- shapes one behind the other
stack-up : {s e : ℕ} {rs : List Placed} → Stacked s e rs → s ≤ e
stack-up stacked.no_row = omega arith
stack-up (stacked.one-row p t) = let h = stack-up t in omega arith

stack-low : {s e : ℕ} {rs : List Placed} → Stacked s e rs → (k : ℕ) → k < length rs → is_shape_of (cells_of rs k) ≡ true → s ≤ nat_abs (get_or (cells_of rs k) 3 (pos 0))
unfolding cells_of
stack-low stacked.no_row k h f = absurd (omega arith)
stack-low (stacked.one-row p t) zero h f = let q = p f in omega arith
stack-low (stacked.one-row p t) (suc k) h f = let q = stack-low t k (omega arith) f in omega arith

stack-high : {s e : ℕ} {rs : List Placed} → Stacked s e rs → (k : ℕ) → k < length rs → is_shape_of (cells_of rs k) ≡ true
    → nat_abs (get_or (cells_of rs k) 3 (pos 0)) + shape_count (cells_of rs k) ≤ e
unfolding cells_of
stack-high stacked.no_row k h f = absurd (omega arith)
stack-high (stacked.one-row p t) zero h f = let q = p f in let u = stack-up t in omega arith
stack-high (stacked.one-row p t) (suc k) h f = stack-high t k (omega arith) f

stack-apart : {s e : ℕ} {rs : List Placed} → Stacked s e rs → (j k : ℕ) → j < k → k < length rs → is_shape_of (cells_of rs j) ≡ true → is_shape_of (cells_of rs k) ≡ true
    → nat_abs (get_or (cells_of rs j) 3 (pos 0)) + shape_count (cells_of rs j) ≤ nat_abs (get_or (cells_of rs k) 3 (pos 0))
unfolding cells_of
stack-apart stacked.no_row j k b h f g = absurd (omega arith)
stack-apart (stacked.one-row p t) j zero b h f g = absurd (omega arith)
stack-apart (stacked.one-row p t) zero (suc k) b h f g = let q = p f in let l = stack-low t k (omega arith) g in omega arith
stack-apart (stacked.one-row p t) (suc j) (suc k) b h f g = stack-apart t j k (omega arith) (omega arith) f g

-- ---- the same of the table
module _ (file : List ℕ) (st : State) (table : List ℤ) (e : verdict_of file ≡ ended st) (small : length file ≤ 2 ^ 24) (m : length (rows_of file) ≤ length table / 12) where
  abbrev rows : List ℤ
  rows = laid_rows table 0 (rows_of file)

  held : (k c : ℕ) → k < length (rows_of file) → c < 12 → number_at rows k c ≡ get_or (cells_of (rows_of file) k) c (pos 0)
  held k c h l = row-held (rows_of file) (rows-twelve file) table m k c h l

  module _ (k : ℕ) (h : k < length (rows_of file)) (f : is_shape_row rows k ≡ true) where
    is-shape : is_shape_of (cells_of (rows_of file) k) ≡ true
    unfolding is_shape_row
    is-shape = rw (held k 0 h (omega arith)) at f

    place_is : place_at rows k ≡ nat_abs (get_or (cells_of (rows_of file) k) 3 (pos 0))
    unfolding place_at
    place_is = ap nat_abs (held k 3 h (omega arith))

    num-is : num_at rows k ≡ shape_count (cells_of (rows_of file) k)
    unfolding num_at shape_count
    num-is = rw is-shape (ap nat_abs (held k 2 h (omega arith)))

    -- the samples of each shape lie among those that were counted
    pub shape-room : place_at rows k + num_at rows k ≤ st.samples
    shape-room = rw (place_is, num-is) (stack-high (rows-stacked file st e small) k h is-shape)

  -- and no two shapes share one
  pub shapes-apart : Apart rows (length (rows_of file))
  unfolding Apart
  shapes-apart j k b h f g =
      inl (rw (place_is j (omega arith) f, num-is j (omega arith) f, place_is k h g) (stack-apart (rows-stacked file st e small) j k b h (is-shape j (omega arith) f) (is-shape k h g)))
