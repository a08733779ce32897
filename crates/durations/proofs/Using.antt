-- First uses, counted one row after another. Assumes nothing.
use Prim.Native.Nat.{ℕ, zero, suc, ◌+◌, ◌-◌, ◌≤◌, ◌<◌}
use mathlib.Core.Bool.{Bool, true, false, cond}
use mathlib.Core.List.{List}
use mathlib.Core.Path.{◌≡◌}
use native.Mathlib.Numerals.{add-one}
use native.Mathlib.Omega.{arith}
use borrow.Author.Tests.{ne_eqb, lt-ltb}
use lib.Dec.{eqb}
use lib.IntN.{ℤ}
use Rattle.sayable.specs.Sayable.{nanos_at}
use Rattle.durations.specs.Durations.{first_use, is_first, use_count, uses_in, delay_number}

-- ---- the first use of a duration that is not 0
pub first_some : (rows : List ℤ) (n k ns : ℕ) → ns ≡ nanos_at rows k → (ns ≡ 0 → ⊥) → (f : ℕ) → f ≡ first_use rows n k → eqb f k ≡ is_first rows n k
unfolding is_first
first_some rows n k ns p z f q = rw (← p, ne_eqb ns 0 z, q)

-- ---- the number of the delay row of a duration: of 0, and of one that is used
pub number-zero : (rows : List ℤ) (n k ns : ℕ) → ns ≡ nanos_at rows k → ns ≡ 0 → 0 ≡ delay_number rows n k
unfolding delay_number
number-zero rows n k ns p z = rw (← p, z)

pub number-used : (rows : List ℤ) (n k ns : ℕ) → ns ≡ nanos_at rows k → (ns ≡ 0 → ⊥) → (f : ℕ) → f ≡ first_use rows n k → f < n → (u : ℕ) → u ≡ uses_in rows n 0 f
    → u + 1 ≡ delay_number rows n k
unfolding delay_number
number-used rows n k ns p z f q h u r = rw (← p, ne_eqb ns 0 z, ← q, lt-ltb f n h, ← r) (add-one u)

-- ---- one or none
pub use-one : (rows : List ℤ) (n k : ℕ) (b : Bool) → b ≡ is_first rows n k → b ≡ true → 1 ≡ use_count rows n k
unfolding use_count
use-one rows n k b p e = rw (← p, e)

pub use-none : (rows : List ℤ) (n k : ℕ) (b : Bool) → b ≡ is_first rows n k → b ≡ false → 0 ≡ use_count rows n k
unfolding use_count
use-none rows n k b p e = rw (← p, e)

pub use-few : (rows : List ℤ) (n k : ℕ) → use_count rows n k ≤ 1
unfolding use_count
use-few rows n k = go (is_first rows n k)
  where
    go : (b : Bool) → cond b 1 0 ≤ 1
    go true = omega arith
    go false = omega arith

-- ---- counting them: those so far, and those of the rows that are left
pub record Counting (rows : List ℤ) (n m count k : ℕ) : Type 0 where
  pub few : count ≤ k
  pub within : k ≤ m
  pub same : count + uses_in rows n k (m - k) ≡ uses_in rows n 0 m

module _ (rows : List ℤ) (n m : ℕ) where
  pub count-start : Counting rows n m 0 0
  count-start = let e : m - 0 ≡ m = omega arith in record { few = omega arith; within = omega arith; same = rw e (omega arith) }

  module _ (count k : ℕ) (w : Counting rows n m count k) where
    pub count_turn : k < m → (u : ℕ) → u ≡ use_count rows n k → Counting rows n m (count + u) (k + 1)
    unfolding uses_in
    count_turn h u p =
        let left : m - k ≡ suc (m - suc k) = omega arith in
        let s : count + (use_count rows n k + uses_in rows n (suc k) (m - suc k)) ≡ uses_in rows n 0 m = rw left at w.same in
        let f = w.few in
        let o = use-few rows n k in
        record { few = omega arith; within = omega arith; same = rw (p, add-one k) (omega arith) }

    pub count-end : m ≤ k → count ≡ uses_in rows n 0 m
    unfolding uses_in
    count-end h = let e : m - k ≡ 0 = omega arith in let s : count + 0 ≡ uses_in rows n 0 m = rw e at w.same in omega arith

-- how many they are at most
pub uses-few : (rows : List ℤ) (n k m : ℕ) → uses_in rows n k m ≤ m
unfolding uses_in
uses-few rows n k zero = omega arith
uses-few rows n k (suc m) = let o = use-few rows n k in let h = uses-few rows n (suc k) m in omega arith
