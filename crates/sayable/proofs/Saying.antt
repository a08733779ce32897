-- One test after another, the edition's own, and whether a test holds for one of n rows. Assumes nothing.
use Prim.Native.Nat.{ℕ, zero, suc, ◌+◌}
use mathlib.Core.Bool.{Bool, true, false, cond, ◌||◌, ◌&&◌}
use mathlib.Core.List.{List}
use mathlib.Core.Path.{◌≡◌, sym}
use native.Mathlib.Nat.{add-suc, suc-add}
use native.Mathlib.Numerals.{add-one}
use native.Mathlib.Omega.{arith}
use borrow.Author.Tests.{lt-ltb, le-ltb}
use lib.Dec.{ltb}
use lib.IntN.{ℤ}
use Rattle.std.specs.List.{list_any, range_with_len}
use Rattle.unit.specs.declared.Rasters.{Rasters}
use Rattle.shape.specs.declared.Edition.{Edition}
use Rattle.shape.specs.declared.Edition.TheVariants.{V13, V14}
use Rattle.tables.specs.Tables.{first_such}
use Rattle.sayable.specs.Sayable.{unsaid13, unsaid14, unsaid_in}

-- ---- both of two
module _ {a c : Bool} (b : Bool) where
  pub and_no : c ≡ a → c ≡ false → false ≡ a && b
  and_no p e = rw (← p, e)

  pub and_then : c ≡ a → c ≡ true → {d : Bool} → d ≡ b → d ≡ a && b
  and_then p e q = rw (← p, e) q

-- ---- the target's own
module _ (target : Edition) (q : Rasters) (rows : List ℤ) (k : ℕ) where
  pub in-13 : target ≡ V13 → unsaid13 rows k ≡ unsaid_in target q rows k
  unfolding unsaid_in
  in-13 e = rw e

  pub in-14 : target ≡ V14 → unsaid14 q rows k ≡ unsaid_in target q rows k
  unfolding unsaid_in
  in-14 e = rw e

-- ---- whether something holds for one of n rows
module _ (holds : ℕ → Bool) where
  any-from : (k m : ℕ) → list_any holds (range_with_len k m) ≡ ltb (first_such holds k m) (k + m)
  unfolding first_such
  any-from k zero = sym (le-ltb k (k + 0) (omega arith))
  any-from k (suc m) = go (holds k) (any-from (suc k) m)
    where
      go : (b : Bool) → list_any holds (range_with_len (suc k) m) ≡ ltb (first_such holds (suc k) m) (suc k + m)
          → (b || list_any holds (range_with_len (k + 1) m)) ≡ ltb (cond b k (first_such holds (suc k) m)) (k + suc m)
      go true e = sym (lt-ltb k (k + suc m) (omega arith))
      go false e = rw (add-one k, add-suc k m, ← suc-add k m) e

  pub no_such : (n : ℕ) → n ≡ first_such holds 0 n → false ≡ ltb (first_such holds 0 n) n
  no_such n p = rw (← p, le-ltb n n (omega arith))

  pub any-such : (n : ℕ) → list_any holds (range_with_len 0 n) ≡ ltb (first_such holds 0 n) n
  any-such n = let z : 0 + n ≡ n = omega arith in rw z at (any-from 0 n)
