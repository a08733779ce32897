-- "1 block (plus its ns)": the length of each block among n rows, as the tenth number of its row.
use Rattle.std.specs.Prelude.{ℕ, zero, suc, ◌+◌, ◌*◌, ◌/◌, min, cond, ◌&&◌, List, ltb, ℤ, pos, length, set}
use Rattle.signed.specs.Signed.{largest}
use Rattle.unit.specs.declared.Rasters.{Rasters}
use Rattle.shape.specs.declared.Edition.{Edition}
use Rattle.columns.specs.Rows.{row_width}
use Rattle.blocks.specs.Blocks.{block_length, is_block}

-- a block's ns as a number of the table, up to the largest; where LONG has passed it is the length itself
unfoldable pub length_number : Edition → Rasters → List ℤ → ℕ → List ℤ → ℕ → ℤ
length_number e q rows n samples k = pos (min (block_length e q rows n samples k) largest)

-- the table with the length of row k, if that is a block; lengths are those of `rows`
unfoldable pub with_length : Edition → Rasters → List ℤ → ℕ → List ℤ → List ℤ → ℕ → List ℤ
with_length e q rows n samples table k =
    cond (ltb k (length table / row_width) && is_block rows k) (set table (k * row_width + 9) (length_number e q rows n samples k)) table

-- and of m rows from row k on
unfoldable pub filled : Edition → Rasters → List ℤ → ℕ → List ℤ → List ℤ → ℕ → ℕ → List ℤ
filled e q rows n samples table k zero = table
filled e q rows n samples table k (suc m) = filled e q rows n samples (with_length e q rows n samples table k) (suc k) m
