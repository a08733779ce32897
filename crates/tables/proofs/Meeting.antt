-- The row that a reference meets, and the samples of a shape, by the answers of the code's tests. Assumes nothing.
use Prim.Native.Nat.{ℕ, ◌≤◌, ◌<◌}
use mathlib.Core.Bool.{false}
use mathlib.Core.List.{List, []}
use mathlib.Core.Path.{◌≡◌}
use borrow.Author.Tests.{lt-ltb, le-ltb}
use lib.IntN.{ℤ, pos}
use Rattle.signed.specs.Signed.{same_z}
use Rattle.tables.specs.Tables.{first_row, met_row, met_number, samples_at, samples_of}

-- ---- the row, for a class and an ID as they were handed on
module _ (rows : List ℤ) (n : ℕ) {class id held ref : ℤ} (p : held ≡ class) (q : ref ≡ id) where
  pub met-found : same_z ref (pos 0) ≡ false → first_row rows n held ref ≡ met_row rows n class id
  unfolding met_row
  met-found e = rw (← p, ← q, e)

-- ---- a shape's, by its ID
module _ (rows : List ℤ) (n : ℕ) (samples : List ℤ) {id ref : ℤ} (q : ref ≡ id) (k : ℕ) (m : k ≡ met_row rows n (pos 11) ref) where
  pub samples-met : k < n → samples_at rows k samples ≡ samples_of rows n samples id
  unfolding samples_of samples_at met_number
  samples-met h = rw (← q, ← m, lt-ltb k n h)

  pub samples-unmet : n ≤ k → [] ≡ samples_of rows n samples id
  unfolding samples_of met_number
  samples-unmet h = rw (← q, ← m, le-ltb k n h)
