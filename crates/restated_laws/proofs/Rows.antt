-- The numbers that reading leaves in the table of rows are no larger than numbers of 64 bits can be, whatever is read. Assumes nothing.
use Prim.Native.Nat.{ℕ, zero, suc, ◌+◌, ◌*◌, ◌/◌, ◌^◌, ◌≤◌}
use mathlib.Core.Bool.{Bool, true, false, cond, ◌&&◌}
use mathlib.Core.List.{List, [], ◌∷◌, ◌++◌}
use mathlib.Core.Path.{◌≡◌, refl}
use native.Mathlib.Omega.{arith}
use lib.Dec.{ltb}
use lib.IntN.{ℤ, pos, nat_abs}
use lib.ListN.{length, get_or, set}
use lib.Seq.{sets}
use Rattle.text.specs.Lines.{lines_of}
use Rattle.unit.specs.declared.Rasters.{Rasters}
use Rattle.shape.specs.declared.Edition.{Edition}
use Rattle.columns.specs.Columns.{form_number, most_of}
use Rattle.columns.specs.Rows.{row_width, blank, padded}
use Rattle.columns.specs.Ranges.{InRange, no_more, no_field, one_number, two-numbers}
use Rattle.columns.specs.declared.Kind.{Kind}
use Rattle.columns.specs.declared.Kind.TheVariants.{Id, Reference, Required, Micros, Duration, Count, Natural, Decimal, Dwell, Absent}
use Rattle.columns.specs.declared.Form.{Form}
use Rattle.columns.specs.declared.Form.TheVariants.{Block, Rf, Gradient, Trap, Adc, Delay, Entry, Trigger}
use Rattle.places.specs.Places.{fresh}
use Rattle.places.specs.declared.Found.{Found}
use Rattle.places.specs.declared.Found.TheVariants.{Nothing, Row, Definition, Fault}
use Rattle.places.specs.declared.State.{State}
use Rattle.grammar.specs.Steps.{step_of}
use Rattle.tables.specs.Tables.{number_at}
use Rattle.blocks.specs.Blocks.{is_block}
use Rattle.file.specs.Whole.{is_fault, is_row, gathered}
use Rattle.file.specs.Rows.{Placed, row_at, rows_from, rows_of, laid_row, laid_rows, scanned_of}
use Rattle.std.proofs.Common.{Err, Ok}
use Rattle.file.specs.Outcome.{Scanned}
use Rattle.file_laws.specs.Ranges.{RowIn, by-columns, extension, label, shape}
use Rattle.file_laws.proofs.Steps.{HeadIn, step-fine}
use Rattle.rules.specs.Filled.{length_number, with_length, filled}
use Rattle.answers.specs.Outcome.{Answer}
use Rattle.reader.specs.Reading.{rows_laid, samples_laid, rows_kept, zeros, if_accepted, read_of, rows_out}
use Rattle.said.proofs.Short.{AllSmall, Small, none-small, more-small, set-small}

-- ---- numbers stored one after another, and zeros
sets-small : (vs l : List ℤ) (i : ℕ) → AllSmall vs → AllSmall l → AllSmall (sets l i vs)
sets-small [] l i p q = q
sets-small (v ∷ vs) l i p q = sets-small vs (set l i v) (suc i) (λ j. p (suc j)) (set-small l i v (p 0) q)

zeros-small : (n : ℕ) → AllSmall (zeros n)
zeros-small zero = none-small
zeros-small (suc n) = more-small (pos 0) (zeros n) (omega arith) (zeros-small n)

-- ---- rows in range
most-small : (k : Kind) → most_of k ≤ 2 ^ 63
most-small Id = omega arith
most-small Reference = omega arith
most-small Required = omega arith
most-small Micros = omega arith
most-small Duration = omega arith
most-small Count = omega arith
most-small Natural = omega arith
most-small Decimal = omega arith
most-small Dwell = omega arith
most-small Absent = omega arith

range_small : {ks : List Kind} {vs : List ℤ} → InRange ks vs → AllSmall vs
range_small no_more = none-small
range_small (no_field {ks} {vs} r) = more-small (pos 0) vs (omega arith) (range_small r)
range_small (one_number {k} {ks} {n} {vs} e l m r) = more-small (pos n) vs (let h = most-small k in omega arith) (range_small r)
range_small (two-numbers {ks} {m} {e} {vs} k r) =
    more-small m (e ∷ vs) (let d = k.digits in omega arith) (more-small e vs (let d = k.power in omega arith) (range_small r))

form_small : (form : Form) → form_number form ≤ 2 ^ 63
form_small Block = omega arith
form_small Rf = omega arith
form_small Gradient = omega arith
form_small Trap = omega arith
form_small Adc = omega arith
form_small Delay = omega arith
form_small Entry = omega arith
form_small Trigger = omega arith

padded-small : (kind : ℕ) (vs : List ℤ) → kind ≤ 2 ^ 63 → AllSmall vs → AllSmall (padded kind vs)
unfolding padded
padded-small kind vs h p = sets-small (pos kind ∷ vs) blank 0 (more-small (pos kind) vs h p) (zeros-small 12)

row_small : {e : Edition} {cells : List ℤ} → RowIn e cells → AllSmall cells
row_small (by-columns form vs r) = padded-small (form_number form) vs (form_small form) (range_small r)
row_small (extension type code a b c) =
    padded-small 8 (pos type ∷ pos code ∷ []) (omega arith) (more-small (pos type) (pos code ∷ []) (omega arith) (more-small (pos code) [] (omega arith) none-small))
row_small (label id flag n v a b c d f g) =
    padded-small 10 (pos id ∷ pos flag ∷ v ∷ pos n ∷ []) (omega arith)
    (more-small (pos id) (pos flag ∷ v ∷ pos n ∷ []) (omega arith)
    (more-small (pos flag) (v ∷ pos n ∷ []) (omega arith) (more-small v (pos n ∷ []) (omega arith) (more-small (pos n) [] (omega arith) none-small))))
row_small (shape id num first a b c d f) =
    padded-small 11 (pos id ∷ pos num ∷ pos first ∷ []) (omega arith)
    (more-small (pos id) (pos num ∷ pos first ∷ []) (omega arith) (more-small (pos num) (pos first ∷ []) (omega arith) (more-small (pos first) [] (omega arith) none-small)))

-- ---- the rows of a file, also of one that is at fault further on
data EachSmall : List Placed → Type 0 where
  no_row : EachSmall []
  one-row : {r : Placed} {rs : List Placed} → AllSmall r.cells → EachSmall rs → EachSmall (r ∷ rs)

each_from : (st : State) (n : ℕ) (ls : List (List ℕ)) → HeadIn st.place → EachSmall (rows_from st n ls)
unfolding gathered row_at is_fault is_row
each_from st n [] h = no_row
each_from st n (l ∷ ls) h =
    let fine = step-fine st h n l in
    go (step_of st n l).found (λ e. row_small (fine.row e)) (each_from (step_of st n l).next (suc n) ls fine.head)
  where
    go : (f : Found) → (f ≡ Row → AllSmall (step_of st n l).cells) → {rs : List Placed} → EachSmall rs
        → EachSmall (cond (is_fault f) [] (cond (is_row f) (record { line = (step_of st n l).line; cells = (step_of st n l).cells } ∷ []) [] ++ rs))
    go Nothing w t = t
    go Row w t = one-row (w refl) t
    go Definition w t = t
    go (Fault f) w t = no_row

each_row : (file : List ℕ) → EachSmall (rows_of file)
unfolding rows_of
each_row file = each_from fresh 1 (lines_of file) tt

-- ---- rows laid over a table, and lengths filled in
by-test : (b : Bool) (x y : List ℤ) → AllSmall x → AllSmall y → AllSmall (cond b x y)
by-test true x y p q = p
by-test false x y p q = q

laid-small : {rs : List Placed} → EachSmall rs → (table : List ℤ) (k : ℕ) → AllSmall table → AllSmall (laid_rows table k rs)
unfolding laid_rows laid_row
laid-small no_row table k p = p
laid-small (one-row {r} s t) table k p =
    laid-small t (laid_row table k r.cells) (suc k)
    (by-test (ltb k (length table / row_width)) (sets table (k * row_width) r.cells) table (sets-small r.cells table (k * row_width) s p) p)

module _ (e : Edition) (q : Rasters) (rows : List ℤ) (n : ℕ) (samples : List ℤ) where
  length-small : (k : ℕ) → nat_abs (length_number e q rows n samples k) ≤ 2 ^ 63
  unfolding length_number
  length-small k = omega arith

  with-small : (table : List ℤ) (k : ℕ) → AllSmall table → AllSmall (with_length e q rows n samples table k)
  unfolding with_length
  with-small table k p =
      by-test (ltb k (length table / row_width) && is_block rows k) (set table (k * row_width + 9) (length_number e q rows n samples k)) table
      (set-small table (k * row_width + 9) (length_number e q rows n samples k) (length-small k) p) p

  filled-small : (m : ℕ) (table : List ℤ) (k : ℕ) → AllSmall table → AllSmall (filled e q rows n samples table k m)
  unfolding filled
  filled-small zero table k p = p
  filled-small (suc m) table k p = filled-small m (with_length e q rows n samples table k) (suc k) (with-small table k p)

-- ---- what reading leaves
module _ (file site : List ℕ) where
  kept_small : (scan : Scanned) (table l : List ℤ) → AllSmall table → AllSmall (rows_kept scan file site table l)
  unfolding rows_kept
  kept_small (Err why) table l p = p
  kept_small (Ok got) table l p =
      filled-small got.edition _ (rows_laid file table) got.rows (samples_laid got.edition file (rows_laid file table) got.rows l) got.rows (rows_laid file table) 0 (laid-small (each_row file) table 0 p)

  module _ (room size : ℕ) where
    out-small : AllSmall (rows_out file site room size)
    unfolding rows_out
    out-small = go (read_of file site room size) _ (kept_small (scanned_of file) (zeros room) (zeros size) (zeros-small room))
      where
        go : (r : Answer) (kept : List ℤ) → AllSmall kept → AllSmall (if_accepted r kept (zeros room))
        go (Ok got) kept p = p
        go (Err why) kept p = zeros-small room

    pub rows-small : Small (rows_out file site room size)
    unfolding number_at
    rows-small k c = go (ltb k (length (rows_out file site room size) / row_width) && ltb c row_width)
      where
        go : (b : Bool) → nat_abs (cond b (get_or (rows_out file site room size) (k * row_width + c) (pos 0)) (pos 0)) ≤ 2 ^ 63
        go true = out-small (k * row_width + c)
        go false = omega arith
