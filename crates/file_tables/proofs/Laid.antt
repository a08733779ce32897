-- Rows laid over a table, by their numbers. Assumes nothing.
use Prim.Native.Nat.{ℕ, zero, suc, ◌+◌, ◌*◌, ◌/◌, ◌≤◌, ◌<◌}
use mathlib.Core.List.{List, [], ◌∷◌}
use mathlib.Core.Path.{◌≡◌, refl, sym, ap, ◌∙◌}
use native.Mathlib.Nat.{zero-add}
use native.Mathlib.Omega.{arith}
use lib.IntN.{ℤ, pos}
use lib.ListN.{length, get_or}
use lib.Seq.{sets, length-sets}
use Rattle.tables.specs.Tables.{number_at}
use Rattle.tables.proofs.Numbers.{number-there}
use Rattle.file.specs.Rows.{Placed, laid_row, laid_rows}
use Rattle.file.proofs.Laying.{laid-room}
use Rattle.file_tables.specs.Tables.{cells_of}
use Rattle.file_tables.proofs.Stores.{sets-before, sets-there}

-- ---- each row has twelve numbers
pub data Twelve : List Placed → Type 0 where
  no_row : Twelve []
  one-row : {r : Placed} {rs : List Placed} → length r.cells ≡ 12 → Twelve rs → Twelve (r ∷ rs)

pub cells-twelve : {rs : List Placed} → Twelve rs → (k : ℕ) → k < length rs → length (cells_of rs k) ≡ 12
unfolding cells_of
cells-twelve no_row k h = absurd (omega arith)
cells-twelve (one-row w t) zero h = w
cells-twelve (one-row w t) (suc k) h = cells-twelve t k (omega arith)

-- ---- one row
module _ (table cells : List ℤ) (k : ℕ) (w : length cells ≡ 12) (h : k < length table / 12) where
  long : length (laid_row table k cells) ≡ length table
  long = ap length (sym (laid-room table k cells h)) ∙ length-sets table (k * 12) cells

  laid-here : (c : ℕ) → c < 12 → number_at (laid_row table k cells) k c ≡ get_or cells c (pos 0)
  laid-here c l =
      let m = long in
      sym (number-there (laid_row table k cells) k c (rw m h) l)
      ∙ ap (λ (t : List ℤ). get_or t (k * 12 + c) (pos 0)) (sym (laid-room table k cells h))
      ∙ sets-there cells table (k * 12) c (omega arith) (omega arith)

  laid-other : (j c : ℕ) → j < k → c < 12 → number_at (laid_row table k cells) j c ≡ number_at table j c
  laid-other j c b l =
      let m = long in
      sym (number-there (laid_row table k cells) j c (rw m (omega arith)) l)
      ∙ ap (λ (t : List ℤ). get_or t (j * 12 + c) (pos 0)) (sym (laid-room table k cells h))
      ∙ sets-before cells table (k * 12) (j * 12 + c) (omega arith)
      ∙ number-there table j c (omega arith) l

-- ---- rows from row k on
rows_before : (rs : List Placed) → Twelve rs → (table : List ℤ) (k : ℕ) → k + length rs ≤ length table / 12 → (j c : ℕ) → j < k → c < 12
    → number_at (laid_rows table k rs) j c ≡ number_at table j c
unfolding laid_rows
rows_before [] no_row table k m j c b l = refl
rows_before (r ∷ rs) (one-row w t) table k m j c b l =
    let e = long table r.cells k w (omega arith) in
    rows_before rs t (laid_row table k r.cells) (suc k) (rw e (omega arith)) j c (omega arith) l ∙ laid-other table r.cells k w (omega arith) j c b l

rows-there : (rs : List Placed) → Twelve rs → (table : List ℤ) (k : ℕ) → k + length rs ≤ length table / 12 → (j c : ℕ) → j < length rs → c < 12
    → number_at (laid_rows table k rs) (k + j) c ≡ get_or (cells_of rs j) c (pos 0)
unfolding laid_rows cells_of
rows-there [] no_row table k m j c b l = absurd (omega arith)
rows-there (r ∷ rs) (one-row w t) table k m zero c b l =
    let e = long table r.cells k w (omega arith) in
    let z : k + 0 ≡ k = omega arith in
    rw z (rows_before rs t (laid_row table k r.cells) (suc k) (rw e (omega arith)) k c (omega arith) l ∙ laid-here table r.cells k w (omega arith) c l)
rows-there (r ∷ rs) (one-row w t) table k m (suc j) c b l =
    let e = long table r.cells k w (omega arith) in
    let z : k + suc j ≡ suc k + j = omega arith in
    rw z (rows-there rs t (laid_row table k r.cells) (suc k) (rw e (omega arith)) j c (omega arith) l)

-- ---- row k of the rows laid over a table with room for all holds its own numbers
pub row-held : (rs : List Placed) → Twelve rs → (table : List ℤ) → length rs ≤ length table / 12 → (k c : ℕ) → k < length rs → c < 12
    → number_at (laid_rows table 0 rs) k c ≡ get_or (cells_of rs k) c (pos 0)
row-held rs t table m k c b l = let z : 0 + k ≡ k = omega arith in rw z at (rows-there rs t table 0 (rw (zero-add (length rs)) m) k c b l)
