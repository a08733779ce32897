-- Times. "Rasters, microseconds and nanoseconds each count in a unit of their own."
-- A microsecond is 1,000 ns; a raster is so many ns as its definition says.
use Rattle.unit.specs.declared.Micros.{Micros}
use Rattle.unit.specs.declared.RasterCount.{RasterCount}
use Rattle.std.specs.Prelude.{ℕ, ◌/◌, ◌%◌, min, cond, not, ◌&&◌, eqb, None, Option, Some}

-- 2^64 - 1: a longer time counts as this one. The times of the paper are far below.
abbrev pub longest : ℕ
longest = 18446744073709551615

abbrev pub capped : ℕ → ℕ
capped n = min n longest

-- whole microseconds, where a time is that
unfoldable pub in_micros : ℕ → Option Micros
in_micros n = cond (eqb (n % 1000) 0) (Some (record { 0 = n / 1000 })) None

-- whole steps of a raster, where a time is that; no time is on a raster of 0 ns
unfoldable pub on_raster : ℕ → ℕ → Option RasterCount
on_raster n raster = cond (not (eqb raster 0) && eqb (n % raster) 0) (Some (record { 0 = n / raster })) None
