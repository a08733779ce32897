-- Rasters. "GradientRasterTime, RadiofrequencyRasterTime, AdcRasterTime, BlockDurationRaster are decimals in seconds worth a whole 1 to 10^6 ns."
use Rattle.numeral.specs.declared.Decimal.{Decimal}
use Rattle.std.specs.Prelude.{ℕ, Bool, ◌||◌, List, [], ◌∷◌, eqb, None, Option, Some}
use Rattle.decimals.specs.Decimal.{decimal_of}
use Rattle.numeral.specs.Worth.{whole_of}
use Rattle.unit.specs.declared.Rasters.{Rasters}
use Rattle.shape.specs.declared.Edition.{Edition}
use Rattle.shape.specs.declared.Edition.TheVariants.{V13, V14}
use Rattle.definitions.specs.Definitions.{definitions_of, sought, definition_of}

-- GradientRasterTime
unfoldable pub gradient_key : List ℕ
gradient_key = 71 ∷ 114 ∷ 97 ∷ 100 ∷ 105 ∷ 101 ∷ 110 ∷ 116 ∷ 82 ∷ 97 ∷ 115 ∷ 116 ∷ 101 ∷ 114 ∷ 84 ∷ 105 ∷ 109 ∷ 101 ∷ []

-- RadiofrequencyRasterTime
unfoldable pub rf_key : List ℕ
rf_key = 82 ∷ 97 ∷ 100 ∷ 105 ∷ 111 ∷ 102 ∷ 114 ∷ 101 ∷ 113 ∷ 117 ∷ 101 ∷ 110 ∷ 99 ∷ 121 ∷ 82 ∷ 97 ∷ 115 ∷ 116 ∷ 101 ∷ 114 ∷ 84 ∷ 105 ∷ 109 ∷ 101 ∷ []

-- AdcRasterTime
unfoldable pub adc_key : List ℕ
adc_key = 65 ∷ 100 ∷ 99 ∷ 82 ∷ 97 ∷ 115 ∷ 116 ∷ 101 ∷ 114 ∷ 84 ∷ 105 ∷ 109 ∷ 101 ∷ []

-- BlockDurationRaster
unfoldable pub block_key : List ℕ
block_key = 66 ∷ 108 ∷ 111 ∷ 99 ∷ 107 ∷ 68 ∷ 117 ∷ 114 ∷ 97 ∷ 116 ∷ 105 ∷ 111 ∷ 110 ∷ 82 ∷ 97 ∷ 115 ∷ 116 ∷ 101 ∷ 114 ∷ []

-- ---- One raster in ns, from its text; 0 where it is absent or bad. 10^9 ns are a second
unfoldable pub whole_or0 : Option ℕ → ℕ
whole_or0 (Some n) = n
whole_or0 None = 0

unfoldable pub worth_of : Option Decimal → ℕ
worth_of (Some d) = whole_or0 (whole_of d 9 1 1000000)
worth_of None = 0

unfoldable pub raster_of : List ℕ → ℕ
raster_of text = worth_of (decimal_of text)

-- ---- "In 1.4 all four stand in the file. In 1.3 .. from the file if named there, else the site"
unfoldable pub text_of : Edition → List ℕ → List ℕ → List ℕ → List ℕ
text_of V13 file site key = definition_of file site key
text_of V14 file site key = sought key (definitions_of file)

unfoldable pub rasters_of : Edition → List ℕ → List ℕ → Rasters
rasters_of e file site =
    record {
      gradient = record { 0 = raster_of (text_of e file site gradient_key) };
      rf = record { 0 = raster_of (text_of e file site rf_key) };
      adc = record { 0 = raster_of (text_of e file site adc_key) };
      block = record { 0 = raster_of (text_of e file site block_key) };
    }

-- ---- "RASTER: a needed raster is absent or bad": in 1.4 all four are needed, "in 1.3 the first two"
unfoldable pub lacks_first : Rasters → Bool
lacks_first q = eqb q.gradient.0 0 || eqb q.rf.0 0

unfoldable pub lacks : Edition → Rasters → Bool
lacks V13 q = lacks_first q
lacks V14 q = lacks_first q || (eqb q.adc.0 0 || eqb q.block.0 0)
