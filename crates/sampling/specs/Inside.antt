-- What the inner functions answer. Nothing here needs to be believed: laws lead from these to the definitions of the other file.
use Rattle.std.specs.Prelude.{ℕ, ◌+◌, ◌<◌, Bool, true, false, List, ◌≡◌, ℤ, pos, length, Option, Some, is_none}
use Rattle.std.proofs.lemmas.List.Edits.{sets}
use Rattle.expanding.specs.Alone.{expanded_of, table_of}
use Rattle.shape.specs.declared.Edition.{Edition}
use Rattle.stored.specs.Inside.{Walked}
use Rattle.file.specs.declared.Walk.{Walk}
use Rattle.columns.specs.Columns.{shape_kind}
use Rattle.tables.specs.Tables.{number_at, is_row_of}
use Rattle.sampling.specs.Sampling.{is_shape_row, num_at, from_at, room_at, failed, fails_at, laid_at}

-- the shape of row k, whose stored lines these are, laid over the lent samples l
pub record ShapeSampled (edition : Edition) (text : List ℕ) (rows : List ℤ) (k : ℕ) (l : List ℤ) (r : Bool) (l' : List ℤ) : Type 0 where
  pub answer : r ≡ failed (expanded_of edition (num_at rows k) text (room_at rows (length l) k))
  pub samples : l' ≡ sets l (from_at rows (length l) k) (table_of edition (num_at rows k) text (room_at rows (length l) k))

-- no row before row k is a shape with this ID; and so it is of row k itself, if that is a shape
unfoldable pub NewTo : List ℤ → ℕ → ℤ → Type 0
NewTo rows k id = (j : ℕ) → j < k → is_row_of rows (pos shape_kind) id j ≡ false

unfoldable pub IsNew : List ℤ → ℕ → Type 0
IsNew rows k = is_shape_row rows k ≡ true → NewTo rows k (number_at rows k 1)

-- row k, whatever it is, and the walk behind it, if it does not fail
pub record RowSampled (edition : Edition) (file : List ℕ) (rows : List ℤ) (k : ℕ) (l : List ℤ) (r : Option Walk) (l' : List ℤ) : Type 0 where
  pub answer : is_none r ≡ fails_at edition file rows (length l) k
  pub samples : l' ≡ laid_at edition file rows (length l) k l
  pub walked : (walk : Walk) → r ≡ Some walk → Walked file (NewTo rows (k + 1)) walk
