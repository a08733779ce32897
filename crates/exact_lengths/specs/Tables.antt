-- Tables in range: rows as a file without a fault gives them, rasters and samples within the paper's limits.
use Rattle.std.specs.Prelude.{ℕ, ◌^◌, ◌≤◌, ◌<◌, List, ◌≡◌, ℤ, pos, nat_abs, get_or}
use Rattle.unit.specs.declared.Rasters.{Rasters}
use Rattle.shape.specs.declared.Edition.{Edition}
use Rattle.tables.specs.Tables.{number_at}
use Rattle.file_laws.specs.Ranges.{RowIn}

-- row k of a table holds a row in range
pub record RowHeld (e : Edition) (rows : List ℤ) (k : ℕ) : Type 0 where
  pub cells : List ℤ
  pub sound : RowIn e cells
  pub numbers : (c : ℕ) → number_at rows k c ≡ get_or cells c (pos 0)

-- "GradientRasterTime .. worth a whole 1 to 10^6 ns"
pub record RastersIn (q : Rasters) : Type 0 where
  pub gradient : q.gradient.0 ≤ 10 ^ 6
  pub rf : q.rf.0 ≤ 10 ^ 6
  pub block : q.block.0 ≤ 10 ^ 6

-- "a sample beyond ±100,000 .. is SHAPE": 100,000 are 10^17 steps
abbrev pub SamplesIn : List ℤ → Type 0
SamplesIn samples = (i : ℕ) → nat_abs (get_or samples i (pos 0)) ≤ 10 ^ 17

pub record TablesIn (e : Edition) (q : Rasters) (rows : List ℤ) (n : ℕ) (samples : List ℤ) : Type 0 where
  pub rasters : RastersIn q
  pub each : (k : ℕ) → k < n → RowHeld e rows k
  pub values : SamplesIn samples
