-- What the hints hold after all rows were noted. A row is found whatever they hold: no law speaks of them.
use Rattle.std.specs.Prelude.{ℕ, zero, suc, ◌+◌, ◌-◌, ◌*◌, ◌/◌, ◌%◌, min, Bool, cond, not, List, ltb, ℤ, pos, nat_abs, length, get_or, set}
use Rattle.signed.specs.Signed.{same_z}
use Rattle.tables.specs.Tables.{number_at, class_at, first_such}

-- how many of n rows share a hint; and the hint of row k, which is the number of its group, from 1, counted from a base on
unfoldable pub group_of : ℕ → ℕ
group_of n = min (n / 65535) 1000000 + 1

unfoldable pub mark_of : ℕ → ℕ → ℕ → ℕ
mark_of k n base = min ((k - base) / group_of (n - base)) 65534 + 1

-- the home of an ID of a class, among so many places, behind which 63 more stand, and behind all the base
unfoldable pub room_of : ℕ → ℕ
room_of count = min count 4294967296 - 64

unfoldable pub home_of : ℕ → ℤ → ℤ → ℕ
home_of count class id = (nat_abs id % 4294967296 * 2654435769 + nat_abs class % 16 * 268435456) % 4294967296 * room_of count / 4294967296

-- the first place from a place on that has no hint, among so many
unfoldable pub free_from : List ℕ → ℕ → ℕ → ℕ
free_from hints at zero = at
free_from hints at (suc left) = cond (ltb 0 (get_or hints at 0)) (free_from hints (suc at) left) at

-- a hint laid at a place that has none
unfoldable pub laid_on : List ℕ → ℕ → ℕ → List ℕ
laid_on hints at mark = cond (ltb 0 (get_or hints at 0)) hints (set hints at mark)

-- row k of n noted, unless it is a block
unfoldable pub noted_row : List ℕ → List ℤ → ℕ → ℕ → ℕ → List ℕ
noted_row hints rows n base k =
    cond (same_z (class_at rows k) (pos 1)) hints (laid_on hints (free_from hints (home_of (length hints) (class_at rows k) (number_at rows k 1)) 64) (mark_of k n base))

-- so many of n rows noted, from row k on
unfoldable pub noted_rows : List ℕ → List ℤ → ℕ → ℕ → ℕ → ℕ → List ℕ
noted_rows hints rows n base k zero = hints
noted_rows hints rows n base k (suc left) = noted_rows (noted_row hints rows n base k) rows n base (suc k) left

-- the base, which is laid behind all hints in steps of 256: the first row that is no block
unfoldable pub is_event : List ℤ → ℕ → Bool
is_event rows k = not (same_z (class_at rows k) (pos 1))

unfoldable pub first_event : List ℤ → ℕ → ℕ
first_event rows n = first_such (is_event rows) 0 n

unfoldable pub base_mark : ℕ → ℕ
base_mark k = min (k / 256) 65535

unfoldable pub based_on : List ℕ → List ℤ → ℕ → List ℕ
based_on hints rows n = laid_on hints (length hints - 1) (base_mark (first_event rows n))

unfoldable pub base_of : List ℕ → ℕ
base_of hints = get_or hints (length hints - 1) 0 * 256

-- and all of it
unfoldable pub noted_all : List ℕ → List ℤ → ℕ → List ℕ
noted_all hints rows n = noted_rows (based_on hints rows n) rows n (base_of (based_on hints rows n)) 0 n
