-- Numbers and classes of rows, by the answers of the code's tests. Assumes nothing.
use Prim.Native.Nat.{ℕ, ◌+◌, ◌*◌, ◌/◌, ◌≤◌, ◌<◌}
use mathlib.Core.Bool.{Bool, true, false, cond, ◌&&◌, and-true, and-false}
use mathlib.Core.List.{List}
use mathlib.Core.Path.{◌≡◌, refl, sym}
use borrow.Author.Tests.{lt-ltb, le-ltb}
use lib.Dec.{ltb}
use lib.IntN.{ℤ, pos}
use lib.ListN.{length, get_or}
use Rattle.signed.specs.Signed.{same_z}
use Rattle.tables.specs.Tables.{number_at, class_at, is_row_of}

-- ---- numbers
module _ (rows : List ℤ) (k c : ℕ) where
  no_row : (a : Bool) → pos 0 ≡ cond (a && false) (get_or rows (k * 12 + c) (pos 0)) (pos 0)
  no_row true = refl
  no_row false = refl

  pub number-beyond : 12 ≤ c → pos 0 ≡ number_at rows k c
  unfolding number_at
  number-beyond h = rw (le-ltb c 12 h) (no_row (ltb k (length rows / 12)))

  pub number-there : k < length rows / 12 → c < 12 → get_or rows (k * 12 + c) (pos 0) ≡ number_at rows k c
  unfolding number_at
  number-there h l = rw (lt-ltb k (length rows / 12) h, lt-ltb c 12 l)

-- ---- a row of a class with an ID, which is looked at first
module _ (rows : List ℤ) (class id : ℤ) (k : ℕ) (own : ℤ) (p : own ≡ number_at rows k 1) where
  pub row_other : same_z own id ≡ false → false ≡ is_row_of rows class id k
  unfolding is_row_of
  row_other e = rw (← p, e, and-false)

  pub row_same : same_z own id ≡ true → (held : ℤ) → held ≡ class_at rows k → same_z held class ≡ is_row_of rows class id k
  unfolding is_row_of
  row_same e held q = rw (← p, e, and-true, q)

-- what was compared, as it was read
pub compared : {r : Bool} (a b x y : ℤ) → r ≡ same_z x y → x ≡ a → y ≡ b → same_z a b ≡ r
compared a b x y e p q = sym (rw (p, q) at e)
