-- The tables: numbers and classes of rows, the row that a reference meets, and the samples of a shape.
use Rattle.std.specs.Prelude.{ℕ, zero, suc, ◌+◌, ◌*◌, ◌/◌, ◌^◌, ◌<◌, Bool, true, cond, ◌&&◌, List, ◌≡◌, ltb, ℤ, pos, nat_abs, length, get_or, take, drop}
use Rattle.signed.specs.Signed.{same_z}
use Rattle.columns.specs.Columns.{form_number, extension_kind, label_kind, shape_kind}
use Rattle.columns.specs.Rows.{row_width}
use Rattle.columns.specs.declared.Form.TheVariants.{Block as BlockForm, Rf as RfForm, Gradient as GradientForm, Trap as TrapForm, Adc as AdcForm, Delay as DelayForm, Entry as EntryForm, Trigger as TriggerForm}
use Rattle.tables.specs.declared.Class.{Class}
use Rattle.tables.specs.declared.Class.TheVariants.{Block, Rf, Gradient, Adc, Delay, Entry, Extension, Trigger, Set, Shape, Increment}

-- ---- "at the first line concerned": the first of m rows from row k on for which something holds; the row behind them if it holds for none
unfoldable pub first_such : (ℕ → Bool) → ℕ → ℕ → ℕ
first_such holds k zero = k
first_such holds k (suc m) = cond (holds k) k (first_such holds (suc k) m)

-- ---- "rows of 12": number c of row k, kind first; 0 where there is no such row
unfoldable pub number_at : List ℤ → ℕ → ℕ → ℤ
number_at rows k c = cond (ltb k (length rows / row_width) && ltb c row_width) (get_or rows (k * row_width + c) (pos 0)) (pos 0)

-- ---- "IDs are unique per class; GRADIENTS and TRAP are one, each extension's rows one, blocks one."
-- a class has the number of its rows' kind; rows 3 and 4 are one class, and rows 10 are two, by set or increment
abbrev pub class_number : Class → ℕ
class_number Block = form_number BlockForm
class_number Rf = form_number RfForm
class_number Gradient = form_number GradientForm
class_number Adc = form_number AdcForm
class_number Delay = form_number DelayForm
class_number Entry = form_number EntryForm
class_number Extension = extension_kind
class_number Trigger = form_number TriggerForm
class_number Set = label_kind
class_number Shape = shape_kind
class_number Increment = 12

unfoldable pub class_of : ℤ → ℤ → ℤ
class_of kind second =
    cond (same_z kind (pos (form_number TrapForm))) (pos (class_number Gradient))
    (cond (same_z kind (pos label_kind) && same_z second (pos 1)) (pos (class_number Increment)) kind)

unfoldable pub class_at : List ℤ → ℕ → ℤ
class_at rows k = class_of (number_at rows k 0) (number_at rows k 2)

-- ---- The first of n rows that is of a class and has an ID; n if none is. The ID, or type, is the first number behind the kind
unfoldable pub is_row_of : List ℤ → ℤ → ℤ → ℕ → Bool
is_row_of rows class id k = same_z (class_at rows k) class && same_z (number_at rows k 1) id

unfoldable pub first_row : List ℤ → ℕ → ℤ → ℤ → ℕ
first_row rows n class id = first_such (is_row_of rows class id) 0 n

-- ---- DUPLICATE: "an ID, type .. met again in its class": row k has the ID of a row before it in its class
unfoldable pub is_again : List ℤ → ℕ → Bool
is_again rows k = ltb (first_row rows k (class_at rows k) (number_at rows k 1)) k

unfoldable pub first_again : List ℤ → ℕ → ℕ
first_again rows n = first_such (is_again rows) 0 n

-- ---- "IDs are unique per class": each of n rows is the first of its class with its ID
unfoldable pub NoneAgain : List ℤ → ℕ → Type 0
NoneAgain rows n = (k : ℕ) → k < n → first_row rows n (class_at rows k) (number_at rows k 1) ≡ k

-- ---- "each checked reference meets exactly one row": row r, and no other
pub record OnlyRow (rows : List ℤ) (n : ℕ) (class id : ℤ) (r : ℕ) : Type 0 where
  pub there : r < n
  pub is : is_row_of rows class id r ≡ true
  pub only : (k : ℕ) → k < n → is_row_of rows class id k ≡ true → k ≡ r

-- ---- The row that a reference meets among n rows: a reference of 0 meets none, which is n
unfoldable pub met_row : List ℤ → ℕ → ℤ → ℤ → ℕ
met_row rows n class id = cond (same_z id (pos 0)) n (first_row rows n class id)

-- number c of that row; 0 where there is none
unfoldable pub met_number : List ℤ → ℕ → ℤ → ℤ → ℕ → ℤ
met_number rows n class id c = cond (ltb (met_row rows n class id) n) (number_at rows (met_row rows n class id) c) (pos 0)

-- ---- "11 shape (id, num_samples, first sample's place from 0)": the samples of the shape of row k, and of the one that a reference meets
unfoldable pub samples_at : List ℤ → ℕ → List ℤ → List ℤ
samples_at rows k samples = take (nat_abs (number_at rows k 2)) (drop (nat_abs (number_at rows k 3)) samples)

unfoldable pub samples_of : List ℤ → ℕ → List ℤ → ℤ → List ℤ
samples_of rows n samples id = take (nat_abs (met_number rows n (pos (class_number Shape)) id 2)) (drop (nat_abs (met_number rows n (pos (class_number Shape)) id 3)) samples)

-- 1 in steps of 10^-12, in which samples are counted
abbrev pub one : ℕ
one = 10 ^ 12
