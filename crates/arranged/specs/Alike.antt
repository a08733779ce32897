-- Rows that say the same in two tables, and tables that hold the same rows in another order. Nothing here needs to be believed.
use Rattle.std.specs.Prelude.{ℕ, suc, ◌<◌, Bool, true, false, not, ◌&&◌, ◌||◌, List, ◌≡◌, eqb, ℤ, pos}
use Rattle.signed.specs.Signed.{same_z}
use Rattle.columns.specs.Columns.{form_number, shape_kind}
use Rattle.columns.specs.declared.Form.TheVariants.{Block, Delay}
use Rattle.tables.specs.Tables.{number_at, NoneAgain}
use Rattle.blocks.specs.Blocks.{is_block}

-- ---- What a row of a kind says anew in another table: a block its duration and its ns, a shape its place
unfoldable pub is_anew : ℤ → ℕ → Bool
is_anew kind c = ((eqb c 2 || eqb c 9) && same_z kind (pos (form_number Block))) || (eqb c 3 && same_z kind (pos shape_kind))

-- row k of table a and row j of table b: the same numbers but for these
pub record Alike (a : List ℤ) (k : ℕ) (b : List ℤ) (j : ℕ) : Type 0 where
  pub same : (c : ℕ) → is_anew (number_at a k 0) c ≡ false → number_at a k c ≡ number_at b j c

-- ---- Row k of table a stands among m rows of table b
pub record Stands (a : List ℤ) (k : ℕ) (b : List ℤ) (m : ℕ) : Type 0 where
  pub j : ℕ
  pub there : j < m
  pub alike : Alike a k b j

-- delay rows are made anew, all others stay
unfoldable pub is_kept : List ℤ → ℕ → Bool
is_kept rows k = not (same_z (number_at rows k 0) (pos (form_number Delay)))

-- ---- n rows of table a and m rows of table b are the same but for their order and for delay rows; each is the first of its class with its ID
pub record Arranged (a : List ℤ) (n : ℕ) (b : List ℤ) (m : ℕ) : Type 0 where
  pub forth : (k : ℕ) → k < n → is_kept a k ≡ true → Stands a k b m
  pub back : (j : ℕ) → j < m → is_kept b j ≡ true → Stands b j a n
  pub once : NoneAgain a n
  pub again : NoneAgain b m

-- ---- Blocks are in the same order: of x rows of table a from row k on, and of y rows of table b from row j on
pub data InOrder (a b : List ℤ) : ℕ → ℕ → ℕ → ℕ → Type 0 where
  no_more : {k j : ℕ} → InOrder a b k 0 j 0
  a_block : {k x j y : ℕ} → is_block a k ≡ true → Alike a k b j → InOrder a b (suc k) x (suc j) y → InOrder a b k (suc x) j (suc y)
  not-here : {k x j y : ℕ} → is_block a k ≡ false → InOrder a b (suc k) x j y → InOrder a b k (suc x) j y
  not_there : {k x j y : ℕ} → is_block b j ≡ false → InOrder a b k x (suc j) y → InOrder a b k x j (suc y)
