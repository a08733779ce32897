-- What the inner functions answer. Nothing here needs to be believed: laws lead from these to the definitions of the other files.
use Prim.{Unit}
use Rattle.std.specs.Prelude.{ℕ, ◌+◌, ◌-◌, ◌≤◌, min, Bool, true, false, cond, ◌&&◌, List, ◌∷◌, ◌≡◌, leb, length, take, drop, None, Option, Some}
use Rattle.signed.specs.Signed.{signed_of, largest}
use Rattle.text.specs.Lines.{bare_of}
use Rattle.text.specs.Marks.{cut_at}
use Rattle.fields.specs.Fields.{fields_of, word_len}
use Rattle.numeral.specs.Digits.{all_digits, value_from}
use Rattle.columns.specs.Columns.{width_of, least_of, most_of}
use Rattle.columns.specs.declared.Kind.{Kind}
use Rattle.columns.specs.declared.Kind.TheVariants.{Id, Reference, Required, Micros, Duration, Count, Natural, Decimal, Dwell, Absent}
use Rattle.rows.specs.Cells.{with, row_from}
use Rattle.rows.specs.declared.Cell.{Cell}
use Rattle.rows.specs.declared.Cell.TheVariants.{One, Two}

-- the kinds of column in which an integer stands
abbrev pub by_digits : Kind → Bool
by_digits Id = true
by_digits Reference = true
by_digits Required = true
by_digits Micros = true
by_digits Duration = true
by_digits Count = true
by_digits Natural = true
by_digits Decimal = false
by_digits Dwell = false
by_digits Absent = false

-- what stands from a place of a line on up to a blank
unfoldable pub word_at : List ℕ → ℕ → List ℕ
word_at line i = take (word_len (drop i line)) (drop i line)

-- a word behind k digits worth v that stop at i: with these at most 10 digits, and nothing else
unfoldable pub gathered_of : ℕ → ℕ → ℕ → List ℕ → Option (ℕ × ℕ)
gathered_of v k i w = cond (leb (k + length w) 10 && all_digits w) (Some ((value_from v w), (i + length w))) None

-- what was taken at a place of a line for a column, with whatever columns follow
pub record CellIs (line : List ℕ) (at : ℕ) (kind : Kind) (c : Option Cell) (width behind : ℕ) : Type 0 where
  pub wide : width_of kind ≡ width
  pub rest : (ks : List Kind) → row_from (kind ∷ ks) (fields_of (drop at line)) ≡ with c (row_from ks (fields_of (drop behind line)))

abbrev pub TakenIs : List ℕ → ℕ → Kind → Option (Cell × ℕ) → Type 0
TakenIs line at kind (Some (One v, behind)) = CellIs line at kind (Some (One v)) 1 behind
TakenIs line at kind (Some (Two a b, behind)) = CellIs line at kind (Some (Two a b)) 2 behind
TakenIs line at kind None = (ks : List Kind) → row_from (kind ∷ ks) (fields_of (drop at line)) ≡ None

-- a number in the range of a column
abbrev pub fits_column : Kind → ℕ → Bool
fits_column kind v = leb (least_of kind) v && leb v (most_of kind)

-- a place of the line that starts at another one: from both on it is cut alike
pub record Along (text : List ℕ) (at i : ℕ) : Type 0 where
  pub later : at ≤ i
  pub same : cut_at text i ≡ cut_at text at

-- digits that stand in a text, as the first word of the line from a place on; nothing is said of other words
pub record WordIs (text : List ℕ) (start v stop : ℕ) : Type 0 where
  pub along : Along text start stop
  pub word : Some (v, (stop - start)) ≡ gathered_of 0 0 0 (word_at (bare_of (drop start text)) 0)

abbrev pub GatheredIs : List ℕ → ℕ → Option (ℕ × ℕ) → Type 0
GatheredIs text start (Some (v, stop)) = WordIs text start v stop
GatheredIs text start None = Unit

-- a number that stands in a text for a column; nothing is said where none was taken
pub record NumberIs (text : List ℕ) (at : ℕ) (kind : Kind) (v stop : ℕ) : Type 0 where
  pub along : Along text at stop
  pub cell : CellIs (bare_of (drop at text)) 0 kind (Some (One (signed_of false (min v largest)))) 1 (stop - at)

abbrev pub ColumnIs : List ℕ → ℕ → Kind → Option (ℕ × ℕ) → Type 0
ColumnIs text at kind (Some (v, stop)) = NumberIs text at kind v stop
ColumnIs text at kind None = Unit
