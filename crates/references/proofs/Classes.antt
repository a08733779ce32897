-- The class that a number refers to, by the answers of the code's tests. Assumes nothing.
use Prim.Native.Nat.{ℕ, zero, suc, ◌≤◌, ◌<◌}
use mathlib.Core.Bool.{Bool, true, false, not, cond, and-false}
use mathlib.Core.List.{List}
use mathlib.Core.Logic.{◌⊎◌, inl, inr}
use mathlib.Core.Path.{◌≡◌, refl, sym, ap, ◌∙◌}
use native.Mathlib.Omega.{arith}
use borrow.Author.Tests.{lt-ltb, le-ltb, le-leb, lt-leb}
use lib.Dec.{ltb, leb}
use lib.IntN.{ℤ, pos}
use lib.ListN.{get_or}
use Rattle.signed.specs.Signed.{same_z}
use Rattle.signed.proofs.Sign.{same_z-refl}
use Rattle.text.proofs.Cases.{lt-or-ge}
use Rattle.shape.specs.declared.Edition.{Edition}
use Rattle.tables.specs.Tables.{first_such, number_at, first_row, met_number}
use Rattle.tables.proofs.Found.{such-further}
use Rattle.references.specs.References.{block_refs, rf_refs, gradient_refs, code_ref, extension_ref, entry_refs, ref_of, ref_at, misses_of, misses_at, dangles_at}

-- ---- the class of a number of a block, whose kind was read
pub ref-block : (edition : Edition) (rows : List ℤ) (n k c : ℕ) (kind : ℤ) → kind ≡ number_at rows k 0 → same_z kind (pos 1) ≡ true → pos (get_or (block_refs edition) c 0) ≡ ref_at edition rows n k c
unfolding ref_at ref_of
ref-block edition rows n k c kind p e = rw (← p, e)

-- ---- a number of row k that meets no row: whether it is 0 is asked first, then its class
module _ (edition : Edition) (rows : List ℤ) (n k c : ℕ) (id : ℤ) (p : id ≡ number_at rows k c) where
  pub misses-nothing : same_z id (pos 0) ≡ true → false ≡ misses_at edition rows n k c
  unfolding misses_at misses_of
  misses-nothing e = rw (← p, e) (sym (and-false (not (same_z (ref_at edition rows n k c) (pos 0)))))

  module _ (e : same_z id (pos 0) ≡ false) (class : ℤ) (q : class ≡ ref_at edition rows n k c) where
    pub misses-class : same_z class (pos 0) ≡ true → false ≡ misses_at edition rows n k c
    unfolding misses_at misses_of
    misses-class f = rw (← q, f)

    pub misses-found : same_z class (pos 0) ≡ false → (r : ℕ) → r ≡ first_row rows n class id → leb n r ≡ misses_at edition rows n k c
    unfolding misses_at misses_of
    misses-found f r m = rw (← p, ← q, e, f, ← m) (turned n r)
      where
        turned : (n r : ℕ) → leb n r ≡ not (ltb r n)
        turned n r = go (lt-or-ge r n)
          where
            go : (r < n) ⊎ (n ≤ r) → leb n r ≡ not (ltb r n)
            go (inl h) = rw (lt-ltb r n h, lt-leb n r h)
            go (inr h) = rw (le-ltb r n h, le-leb n r h)

-- ---- a row's kind and its ID refer to none, so the numbers behind them are asked alone
module _ (edition : Edition) (rows : List ℤ) (n k : ℕ) where
  none_of : (a b c d : Bool) → cond a (pos 0) (cond b (pos 0) (cond c (pos 0) (cond d (pos 0) (pos 0)))) ≡ pos 0
  none_of true b c d = refl
  none_of false true c d = refl
  none_of false false true d = refl
  none_of false false false true = refl
  none_of false false false false = refl

  kind-none : misses_at edition rows n k 0 ≡ false
  unfolding misses_at misses_of ref_at ref_of
  kind-none = rw (none_of (same_z (number_at rows k 0) (pos 1)) (same_z (number_at rows k 0) (pos 2)) (same_z (number_at rows k 0) (pos 3)) (same_z (number_at rows k 0) (pos 7)), same_z-refl (pos 0))

  id-none : misses_at edition rows n k 1 ≡ false
  unfolding misses_at misses_of ref_at ref_of
  id-none = rw (none_of (same_z (number_at rows k 0) (pos 1)) (same_z (number_at rows k 0) (pos 2)) (same_z (number_at rows k 0) (pos 3)) (same_z (number_at rows k 0) (pos 7)), same_z-refl (pos 0))

  pub numbers-behind : first_such (misses_at edition rows n k) 2 10 ≡ first_such (misses_at edition rows n k) 0 12
  numbers-behind = such-further (misses_at edition rows n k) 1 12 (omega arith) id-none ∙ such-further (misses_at edition rows n k) 0 12 (omega arith) kind-none

-- ---- a row that refers to none
module _ (edition : Edition) (rows : List ℤ) (n k : ℕ) (r : ℕ) (p : r ≡ first_such (misses_at edition rows n k) 0 12) where
  pub dangles-yes : r < 12 → true ≡ dangles_at edition rows n k
  unfolding dangles_at
  dangles-yes h = rw (← p, lt-ltb r 12 h)

  pub dangles-no : 12 ≤ r → false ≡ dangles_at edition rows n k
  unfolding dangles_at
  dangles-no h = rw (← p, le-ltb r 12 h)
