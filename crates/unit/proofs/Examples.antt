-- Times by example. Assumes nothing.
use Rattle.std.proofs.Common.{None, Some}
use Prim.Native.Nat.{◌+◌}
use mathlib.Core.Path.{◌≡◌, refl}
use Rattle.unit.specs.Time.{longest, capped, in_micros, on_raster}

-- 20,000 ns are 20 us, or 2 steps of 10 us
whole : in_micros 20000 ≡ Some (record { 0 = 20 })
unfolding in_micros
whole = refl

between : in_micros 20001 ≡ None
unfolding in_micros
between = refl

steps : on_raster 20000 10000 ≡ Some (record { 0 = 2 })
unfolding on_raster
steps = refl

off : on_raster 25000 10000 ≡ None
unfolding on_raster
off = refl

-- no time is on a raster of 0 ns, not even 0
none : on_raster 0 0 ≡ None
unfolding on_raster
none = refl

-- the end of the scale
past : capped (longest + 1) ≡ longest
past = refl
