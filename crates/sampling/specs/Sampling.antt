-- The shapes of a whole file, expanded. "SHAPE: stored values don't expand". Rows are those of an arbitrary table, and size is how many samples are
-- lent.
use Rattle.shape.specs.Answers.{Expanded}
use Rattle.shape.specs.declared.Unexpanded.TheVariants.{Room, Field, Shape}
use Rattle.std.specs.Prelude.{ℕ, zero, suc, ◌+◌, ◌-◌, ◌≤◌, ◌<◌, min, Bool, true, false, cond, ◌&&◌, List, ◌⊎◌, ◌≡◌, ℤ, pos, nat_abs, length, Ok, Err}
use Rattle.std.proofs.lemmas.List.Edits.{sets}
use Rattle.signed.specs.Signed.{same_z}
use Rattle.columns.specs.Columns.{shape_kind}
use Rattle.shape.specs.Stored.{values_of}
use Rattle.expanding.specs.Expand.{Trace, expansion_of}
use Rattle.expanding.specs.Alone.{expanded_of, table_of}
use Rattle.shape.specs.declared.Edition.{Edition}
use Rattle.stored.specs.Shapes.{stored_of}
use Rattle.tables.specs.Tables.{first_such, number_at}

-- ---- "11 shape (id, num_samples, first sample's place from 0)"
unfoldable pub is_shape_row : List ℤ → ℕ → Bool
is_shape_row rows k = same_z (number_at rows k 0) (pos shape_kind)

unfoldable pub text_at : List ℕ → List ℤ → ℕ → List ℕ
text_at file rows k = stored_of file (number_at rows k 1)

unfoldable pub num_at : List ℤ → ℕ → ℕ
num_at rows k = nat_abs (number_at rows k 2)

unfoldable pub place_at : List ℤ → ℕ → ℕ
place_at rows k = nat_abs (number_at rows k 3)

-- what its stored lines expand to
unfoldable pub expansion_at : Edition → List ℕ → List ℤ → ℕ → Trace ℤ
expansion_at edition file rows k = expansion_of edition (num_at rows k) (values_of (text_at file rows k))

-- ---- The part of the lent samples that is a shape's: from its place on, as many as it has, where there are so many
unfoldable pub from_at : List ℤ → ℕ → ℕ → ℕ
from_at rows size k = min (place_at rows k) size

unfoldable pub room_at : List ℤ → ℕ → ℕ → ℕ
room_at rows size k = min (num_at rows k) (size - from_at rows size k)

-- ---- SHAPE, asked of one row, and the first of n rows that breaks it
unfoldable pub failed : Expanded → Bool
failed (Ok n) = false
failed (Err Field) = true
failed (Err Shape) = true
failed (Err Room) = true

unfoldable pub fails_at : Edition → List ℕ → List ℤ → ℕ → ℕ → Bool
fails_at edition file rows size k = is_shape_row rows k && failed (expanded_of edition (num_at rows k) (text_at file rows k) (room_at rows size k))

unfoldable pub first_failing : Edition → List ℕ → List ℤ → ℕ → ℕ → ℕ
first_failing edition file rows size n = first_such (fails_at edition file rows size) 0 n

-- ---- The lent samples afterwards: each shape's part holds its samples; that of the first that fails holds zeros, and no later one is touched
unfoldable pub laid_at : Edition → List ℕ → List ℤ → ℕ → ℕ → List ℤ → List ℤ
laid_at edition file rows size k l =
    cond (is_shape_row rows k) (sets l (from_at rows size k) (table_of edition (num_at rows k) (text_at file rows k) (room_at rows size k))) l

unfoldable pub laid_from : Edition → List ℕ → List ℤ → ℕ → ℕ → ℕ → List ℤ → List ℤ
laid_from edition file rows size k zero l = l
laid_from edition file rows size k (suc m) l =
    cond (fails_at edition file rows size k) (laid_at edition file rows size k l)
    (laid_from edition file rows size (suc k) m (laid_at edition file rows size k l))

-- what expanding the shapes of n rows answers, and what it leaves in the lent samples l: two things that determine all of it
pub record Sampled (edition : Edition) (file : List ℕ) (rows : List ℤ) (n : ℕ) (l : List ℤ) (r : ℕ) (l' : List ℤ) : Type 0 where
  pub answer : r ≡ first_failing edition file rows (length l) n
  pub samples : l' ≡ laid_from edition file rows (length l) 0 n l

-- ---- That the parts of different shapes among n rows do not overlap, and that number i of the samples is in none of them
unfoldable pub Apart : List ℤ → ℕ → Type 0
Apart rows n =
    (j k : ℕ) → j < k → k < n → is_shape_row rows j ≡ true → is_shape_row rows k ≡ true
    → (place_at rows j + num_at rows j ≤ place_at rows k) ⊎ (place_at rows k + num_at rows k ≤ place_at rows j)

unfoldable pub Outside : List ℤ → ℕ → ℕ → Type 0
Outside rows n i = (k : ℕ) → k < n → is_shape_row rows k ≡ true → (i < place_at rows k) ⊎ (place_at rows k + num_at rows k ≤ i)
