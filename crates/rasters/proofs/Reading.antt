-- Four rasters, each read from its text, are those of a file and a site. Assumes nothing.
use Prim.Native.Nat.{ℕ}
use mathlib.Core.List.{List}
use mathlib.Core.Path.{◌≡◌, ap}
use Rattle.unit.specs.declared.Nanos.{Nanos}
use Rattle.shape.specs.declared.Edition.{Edition}
use Rattle.rasters.specs.Rasters.{raster_of, text_of, rasters_of, gradient_key, rf_key, adc_key, block_key}

same-ns : (a b : Nanos) → a.0 ≡ b.0 → a ≡ b
same-ns a b e = ap (λ (n : ℕ). record { 0 = n }) e

pub four_are : (e : Edition) (file site : List ℕ) (a b c d : Nanos) → a.0 ≡ raster_of (text_of e file site gradient_key) → b.0 ≡ raster_of (text_of e file site rf_key)
    → c.0 ≡ raster_of (text_of e file site adc_key) → d.0 ≡ raster_of (text_of e file site block_key)
    → record { gradient = a; rf = b; adc = c; block = d } ≡ rasters_of e file site
unfolding rasters_of
four_are e file site a b c d p q r s = rw (same-ns a _ p, same-ns b _ q, same-ns c _ r, same-ns d _ s)
