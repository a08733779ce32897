-- Lines of rows whose numbers are no larger than numbers of 64 bits can be are short. Assumes nothing.
use Prim.Native.Nat.{ℕ, zero, suc, ◌*◌, ◌^◌, ◌≤◌}
use mathlib.Core.Bool.{Bool, true, false, cond}
use mathlib.Core.List.{List, [], ◌∷◌}
use native.Mathlib.Omega.{arith}
use lib.IntN.{ℤ, pos, nat_abs}
use lib.ListN.{length, get_or, drop, set, length-append}
use Rattle.text.proofs.Short.{Short, short_none, short-line, short-append}
use Rattle.fields.specs.Fields.{spaced, joined}
use Rattle.signed.specs.Signed.{is_negative, same_z}
use Rattle.print.specs.Printed.{signed_text, power_text, decimal_text}
use Rattle.print.proofs.Digits.{digits-within}
use Rattle.print.proofs.Parts.{number-length}
use Rattle.shape.specs.declared.Edition.{Edition}
use Rattle.columns.specs.Columns.{columns_of, is_absent, width_of}
use Rattle.columns.specs.declared.Kind.{Kind}
use Rattle.columns.specs.declared.Kind.TheVariants.{Id, Reference, Required, Micros, Duration, Count, Natural, Decimal, Dwell, Absent}
use Rattle.columns.specs.declared.Form.{Form}
use Rattle.columns.specs.declared.Form.TheVariants.{Block, Rf, Gradient, Trap, Adc, Delay, Entry, Trigger}
use Rattle.row_text.specs.Printed.{field_text, texts_of, row_text}
use Rattle.tables.specs.Tables.{number_at}
use Rattle.blocks.specs.Blocks.{is_block}
use Rattle.said.specs.Said.{numbers_from, numbers_at, duration_number, said_row, is_of_form, line_text, row_line, lines_text, section_of}

-- ---- one of two texts, lines one after another, and a section, each of them short
pub short-if : (b : Bool) {s t : List ℕ} → Short s → Short t → Short (cond b s t)
short-if true p q = p
short-if false p q = q

pub lines-short : (line : ℕ → List ℕ) → ((k : ℕ) → Short (line k)) → (k n : ℕ) → Short (lines_text line k n)
unfolding lines_text
lines-short line s k zero = short_none
lines-short line s k (suc n) = short-append (s k) (lines-short line s (suc k) n)

pub section-short : (b : Bool) {head lines : List ℕ} → Short head → Short lines → Short (section_of b head lines)
section-short b h k = short-if b (short-append h (short-append k (short-line [] (omega arith) short_none))) short_none

-- ---- numbers of a list, and of a table
abbrev pub AllSmall : List ℤ → Type 0
AllSmall l = (i : ℕ) → nat_abs (get_or l i (pos 0)) ≤ 2 ^ 63

abbrev pub Small : List ℤ → Type 0
Small rows = (k c : ℕ) → nat_abs (number_at rows k c) ≤ 2 ^ 63

pub none-small : AllSmall []
none-small i = omega arith

pub more-small : (v : ℤ) (l : List ℤ) → nat_abs v ≤ 2 ^ 63 → AllSmall l → AllSmall (v ∷ l)
more-small v l h p zero = h
more-small v l h p (suc i) = p i

pub set-small : (l : List ℤ) (i : ℕ) (v : ℤ) → nat_abs v ≤ 2 ^ 63 → AllSmall l → AllSmall (set l i v)
set-small [] i v h p = p
set-small (x ∷ l) zero v h p = more-small v l h (λ j. p (suc j))
set-small (x ∷ l) (suc i) v h p = more-small x (set l i v) (p 0) (set-small l i v h (λ j. p (suc j)))

pub drop-small : (m : ℕ) (l : List ℤ) → AllSmall l → AllSmall (drop m l)
drop-small zero l p = p
drop-small (suc m) [] p = p
drop-small (suc m) (x ∷ l) p = drop-small m l (λ j. p (suc j))

-- ---- a number, and a column of a row
pub signed-short : (z : ℤ) → nat_abs z ≤ 2 ^ 63 → length (signed_text z) ≤ 20
unfolding signed_text
signed-short z h = omega (arith, number-length (is_negative z) (nat_abs z), digits-within 18 (nat_abs z) (omega arith))

power-short : (z : ℤ) → nat_abs z ≤ 2 ^ 63 → length (power_text z) ≤ 21
unfolding power_text
power-short z h = go (same_z z (pos 0))
  where
    go : (b : Bool) → length (cond b [] (101 ∷ signed_text z)) ≤ 21
    go true = omega arith
    go false = let l = signed-short z h in omega arith

field-short : (k : Kind) (vs : List ℤ) → AllSmall vs → length (field_text k vs) ≤ 41
unfolding field_text decimal_text
field-short Id vs p = let l = signed-short (get_or vs 0 (pos 0)) (p 0) in omega arith
field-short Reference vs p = let l = signed-short (get_or vs 0 (pos 0)) (p 0) in omega arith
field-short Required vs p = let l = signed-short (get_or vs 0 (pos 0)) (p 0) in omega arith
field-short Micros vs p = let l = signed-short (get_or vs 0 (pos 0)) (p 0) in omega arith
field-short Duration vs p = let l = signed-short (get_or vs 0 (pos 0)) (p 0) in omega arith
field-short Count vs p = let l = signed-short (get_or vs 0 (pos 0)) (p 0) in omega arith
field-short Natural vs p = let l = signed-short (get_or vs 0 (pos 0)) (p 0) in omega arith
field-short Decimal vs p =
    let l = signed-short (get_or vs 0 (pos 0)) (p 0) in
    let m = power-short (get_or vs 1 (pos 0)) (p 1) in
    omega (arith, length-append (signed_text (get_or vs 0 (pos 0))) (power_text (get_or vs 1 (pos 0))))
field-short Dwell vs p = let l = signed-short (get_or vs 0 (pos 0)) (p 0) in omega arith
field-short Absent vs p = omega arith

-- ---- all columns of a row, with the spaces between them
spaced-short : (ks : List Kind) (vs : List ℤ) → AllSmall vs → length (spaced (texts_of ks vs)) ≤ 42 * length ks
unfolding texts_of spaced
spaced-short [] vs p = omega arith
spaced-short (k ∷ ks) vs p = go (is_absent k) _ (field-short k vs p) _ (spaced-short ks (drop (width_of k) vs) (drop-small (width_of k) vs p))
  where
    go : (b : Bool) (w : List ℕ) → length w ≤ 41 → (ws : List (List ℕ)) → length (spaced ws) ≤ 42 * length ks → length (spaced (cond b ws (w ∷ ws))) ≤ 42 * suc (length ks)
    go true w f ws r = omega arith
    go false w f ws r = omega (arith, length-append w (spaced ws))

joined-spaced : (ws : List (List ℕ)) → length (joined ws) ≤ length (spaced ws)
unfolding joined spaced
joined-spaced [] = omega arith
joined-spaced (w ∷ ws) = omega arith

columns-few : (target : Edition) (form : Form) → length (columns_of target form) ≤ 9
unfolding columns_of
columns-few target Block = omega arith
columns-few target Rf = omega arith
columns-few target Gradient = omega arith
columns-few target Trap = omega arith
columns-few target Adc = omega arith
columns-few target Delay = omega arith
columns-few target Entry = omega arith
columns-few target Trigger = omega arith

module _ (target : Edition) (form : Form) (row : List ℤ) (small : AllSmall row) where
  pub row-length : length (row_text (columns_of target form) (drop 1 row)) ≤ 1024
  unfolding row_text
  row-length =
      let ks = columns_of target form in
      let a = joined-spaced (texts_of ks (drop 1 row)) in
      let b = spaced-short ks (drop 1 row) (drop-small 1 row small) in
      let c = columns-few target form in
      omega arith

  pub row-short : Short (line_text target form row)
  unfolding line_text
  row-short = short-line (row_text (columns_of target form) (drop 1 row)) row-length short_none

-- ---- a row as a target says it, and the rows of a form
module _ (rows : List ℤ) (small : Small rows) where
  from-small : (k c m : ℕ) → AllSmall (numbers_from rows k c m)
  unfolding numbers_from
  from-small k c zero = none-small
  from-small k c (suc m) = more-small (number_at rows k c) (numbers_from rows k (suc c) m) (small k c) (from-small k (suc c) m)

  pub numbers-small : (k : ℕ) → AllSmall (numbers_at rows k)
  unfolding numbers_at
  numbers-small k = from-small k 0 12

  module _ (target : Edition) (raster n : ℕ) where
    duration-small : (k : ℕ) → nat_abs (duration_number target raster rows n k) ≤ 2 ^ 63
    unfolding duration_number
    duration-small k = omega arith

    pub said-small : (k : ℕ) → AllSmall (said_row target raster rows n k)
    unfolding said_row
    said-small k = go (is_block rows k)
      where
        go : (b : Bool) → AllSmall (cond b (set (numbers_at rows k) 2 (duration_number target raster rows n k)) (numbers_at rows k))
        go true = set-small (numbers_at rows k) 2 (duration_number target raster rows n k) (duration-small k) (numbers-small k)
        go false = numbers-small k

    pub row-line-short : (form : Form) (k : ℕ) → Short (row_line target raster form rows n k)
    unfolding row_line
    row-line-short form k = short-if (is_of_form form rows k) (row-short target form (said_row target raster rows n k) (said-small k)) short_none
