-- Delay rows for 1.3.1. "For 1.3.1 each nonzero duration has one delay row, numbered from 1 by first use."
use Rattle.std.specs.Prelude.{ℕ, zero, suc, ◌+◌, min, Bool, cond, not, ◌&&◌, List, [], ◌∷◌, ◌++◌, ◌≡◌, eqb, ltb, ℤ, length, take}
use Rattle.output.specs.Over.{over}
use Rattle.tables.specs.Tables.{first_such}
use Rattle.blocks.specs.Blocks.{is_block}
use Rattle.sayable.specs.Sayable.{nanos_at}

-- ---- The first use of a duration: the first of n rows that is a block and lasts as long as row k
unfoldable pub is_alike : List ℤ → ℕ → ℕ → Bool
is_alike rows k j = is_block rows j && eqb (nanos_at rows j) (nanos_at rows k)

unfoldable pub first_use : List ℤ → ℕ → ℕ → ℕ
first_use rows n k = first_such (is_alike rows k) 0 n

-- ---- "each nonzero duration": row k is its first use
unfoldable pub is_first : List ℤ → ℕ → ℕ → Bool
is_first rows n k = not (eqb (nanos_at rows k) 0) && eqb (first_use rows n k) k

unfoldable pub use_count : List ℤ → ℕ → ℕ → ℕ
use_count rows n k = cond (is_first rows n k) 1 0

-- ---- "numbered from 1 by first use": how many of m rows from row k on are first uses
unfoldable pub uses_in : List ℤ → ℕ → ℕ → ℕ → ℕ
uses_in rows n k zero = 0
uses_in rows n k (suc m) = use_count rows n k + uses_in rows n (suc k) m

-- the number of the delay row that the duration of row k has; a duration of 0 has none, which is 0, nor has what is no block's
unfoldable pub delay_number : List ℤ → ℕ → ℕ → ℕ
delay_number rows n k = cond (eqb (nanos_at rows k) 0) 0 (cond (ltb (first_use rows n k) n) (suc (uses_in rows n 0 (first_use rows n k))) 0)

-- ---- The durations in the order of first use: that of row k, if it is a first use, and those of m rows from row k on
unfoldable pub use_list : List ℤ → ℕ → ℕ → List ℕ
use_list rows n k = cond (is_first rows n k) (nanos_at rows k ∷ []) []

unfoldable pub uses_list : List ℤ → ℕ → ℕ → ℕ → List ℕ
uses_list rows n k zero = []
uses_list rows n k (suc m) = use_list rows n k ++ uses_list rows n (suc k) m

-- those of n rows laid over a lent list, as many as it has room for
pub record Listed (rows : List ℤ) (n : ℕ) (l : List ℕ) (count : ℕ) (l' : List ℕ) : Type 0 where
  pub many : count ≡ min (uses_in rows n 0 n) (length l)
  pub list : l' ≡ over l 0 (uses_list rows n 0 n)

-- a list that holds the first of them
unfoldable pub FirstUsed : List ℤ → ℕ → List ℕ → Type 0
FirstUsed rows n list = list ≡ take (length list) (uses_list rows n 0 n)

-- where a number stands in a list, from 0; the list's length if it does not
unfoldable pub stands_at : List ℕ → ℕ → ℕ
stands_at [] x = 0
stands_at (y ∷ list) x = cond (eqb y x) 0 (suc (stands_at list x))

-- row k is a block with a duration other than 0 that does not stand in a list, and its duration then
unfoldable pub is_new : List ℕ → List ℤ → ℕ → Bool
is_new list rows k = is_block rows k && (not (eqb (nanos_at rows k) 0) && eqb (stands_at list (nanos_at rows k)) (length list))

unfoldable pub new_use : List ℕ → List ℤ → ℕ → List ℕ
new_use list rows k = cond (is_new list rows k) (nanos_at rows k ∷ []) []
