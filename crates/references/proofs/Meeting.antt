-- "each checked reference meets exactly one row": where no ID is met again in its class, and a row passes REFERENCE. Assumes nothing.
use Prim.Native.Nat.{ℕ, ◌<◌, ◌≤◌}
use mathlib.Core.Bool.{false}
use mathlib.Core.List.{List}
use mathlib.Core.Path.{◌≡◌}
use native.Mathlib.Omega.{arith}
use borrow.Author.Tests.{ltb-true, ltb-false, not-false}
use lib.IntN.{ℤ, pos}
use Rattle.signed.specs.Signed.{same_z}
use Rattle.shape.specs.declared.Edition.{Edition}
use Rattle.tables.specs.Tables.{first_such, number_at, first_row, NoneAgain, OnlyRow}
use Rattle.tables.proofs.Found.{first-is, found-only}
use Rattle.references.specs.References.{ref_at, misses_of, misses_at, dangles_at}

module _ (edition : Edition) (rows : List ℤ) (n k : ℕ) where
  -- none of its twelve numbers misses
  meets : dangles_at edition rows n k ≡ false → (c : ℕ) → c < 12 → misses_at edition rows n k c ≡ false
  unfolding dangles_at
  meets e c h =
      let all : 12 ≤ first_such (misses_at edition rows n k) 0 12 = ltb-false _ 12 e in
      (first-is (misses_at edition rows n k) 0 12).before c (omega arith) (omega arith)

  found-there : (class id : ℤ) → misses_of rows n class id ≡ false → same_z class (pos 0) ≡ false → same_z id (pos 0) ≡ false → first_row rows n class id < n
  unfolding misses_of
  found-there class id e a b = ltb-true (first_row rows n class id) n (not-false _ (rw (a, b) at e))

  -- ---- number c of row k, where it refers to a class and is not 0
  pub reference-met : NoneAgain rows n → dangles_at edition rows n k ≡ false → (c : ℕ) → c < 12 → same_z (ref_at edition rows n k c) (pos 0) ≡ false
      → same_z (number_at rows k c) (pos 0) ≡ false
      → OnlyRow rows n (ref_at edition rows n k c) (number_at rows k c) (first_row rows n (ref_at edition rows n k c) (number_at rows k c))
  unfolding misses_at
  reference-met once e c h a b = found-only rows n (ref_at edition rows n k c) (number_at rows k c) once (found-there _ _ (meets e c h) a b)
