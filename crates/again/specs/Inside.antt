-- What the inner functions answer. Nothing here needs to be believed: laws lead from these to the definitions of the other files.
use Rattle.std.specs.Prelude.{ℕ, ◌<◌, Bool, false, ◌&&◌, List, ◌≡◌, ℤ, pos, get_or}
use Rattle.std.specs.Int.Signed.{lt_z}
use Rattle.tables.specs.Tables.{number_at, class_at, is_again}
use Rattle.sets.specs.Sets.{is_in}
use Rattle.again.specs.Noting.{place_of, is_open, key_of}

-- ---- Things with a class and an ID, one after the other: of the first k, each of a class that is not open is at most what is noted, and no thing
-- before it is of its class and has its ID
pub record Ascending (class id : ℕ → ℤ) (most : List ℤ) (j : ℕ) : Type 0 where
  pub most-noted : lt_z (get_or most (place_of (class j)) (pos 0)) (id j) ≡ false
  pub once : (i : ℕ) → i < j → class i ≡ class j → id i ≡ id j → ⊥

pub record Noted (class id : ℕ → ℤ) (most : List ℤ) (k : ℕ) : Type 0 where
  pub each : (j : ℕ) → j < k → is_open most (class j) ≡ false → Ascending class id most j

-- ---- Rows of a table
abbrev pub id_at : List ℤ → ℕ → ℤ
id_at rows k = number_at rows k 1

abbrev pub key_at : List ℤ → ℕ → ℕ
key_at rows k = key_of (class_at rows k) (id_at rows k)

-- is row k of an open class, and its number in a part?
unfoldable pub is_asked : List ℤ → List ℤ → ℕ → ℕ → ℕ → Bool
is_asked most rows parts part k = is_open most (class_at rows k) && is_in (key_at rows k) parts part

-- such a row that repeats the ID of a row before it in its class
unfoldable pub again_in : List ℤ → List ℤ → ℕ → ℕ → ℕ → Bool
again_in most rows parts part k = is_asked most rows parts part k && is_again rows k
