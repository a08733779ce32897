-- Rasters for restating. "restating to 1.4.1 needs all four that way, restating to 1.3.1 the site's first two besides".
use Rattle.std.specs.Prelude.{ℕ, Bool, ◌||◌, List}
use Rattle.unit.specs.declared.Rasters.{Rasters}
use Rattle.shape.specs.declared.Edition.{Edition}
use Rattle.shape.specs.declared.Edition.TheVariants.{V13, V14}
use Rattle.definitions.specs.Definitions.{site_definitions, sought}
use Rattle.rasters.specs.Rasters.{gradient_key, rf_key, adc_key, block_key, raster_of, lacks}

-- one raster of a site's definitions, in ns
unfoldable pub site_raster : List ℕ → List ℕ → ℕ
site_raster site key = raster_of (sought key (site_definitions site))

unfoldable pub site_rasters : List ℕ → Rasters
site_rasters site =
    record {
      gradient = record { 0 = site_raster site gradient_key };
      rf = record { 0 = site_raster site rf_key };
      adc = record { 0 = site_raster site adc_key };
      block = record { 0 = site_raster site block_key };
    }

-- ---- RASTER when restating: q is what reading goes by, "from the file if named there, else the site", and s is the site's
unfoldable pub besides : Edition → Rasters → Rasters → Bool
besides V13 q s = lacks V13 s
besides V14 q s = lacks V14 q

unfoldable pub lacks_for : Edition → Edition → Rasters → Rasters → Bool
lacks_for target e q s = lacks e q || besides target q s
