-- The rows of a file by their number, as a table holds them.
use Rattle.std.specs.Prelude.{ℕ, zero, suc, List, [], ◌∷◌, ℤ}
use Rattle.file.specs.Rows.{Placed}

-- the numbers of row k, from 0; none if there is no such row
unfoldable pub cells_of : List Placed → ℕ → List ℤ
cells_of [] k = []
cells_of (r ∷ rs) zero = r.cells
cells_of (r ∷ rs) (suc k) = cells_of rs k
