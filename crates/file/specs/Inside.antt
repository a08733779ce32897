-- What the inner functions answer. Nothing here needs to be believed: laws lead from these to the definitions of the other files.
use Rattle.std.specs.Prelude.{ℕ, Bool, false, cond, List, ◌≡◌, eqb, ℤ, length}
use Rattle.places.specs.Places.{section_in}
use Rattle.places.specs.declared.State.{State}
use Rattle.file.specs.Rows.{Placed, laid_rows}

-- some rows laid over a table from row k on; r is how many they are
pub record Laid (rs : List Placed) (k r : ℕ) (table table' : List ℤ) : Type 0 where
  pub count : r ≡ length rs
  pub rows : table' ≡ laid_rows table k rs

-- does a file stand in section s for the first time, where the place behind the line that led there is 0 as long as it is not noted?
unfoldable pub is_met : ℕ → ℕ → State → Bool
is_met s noted st = cond (eqb noted 0) (eqb (section_in st.place) s) false
