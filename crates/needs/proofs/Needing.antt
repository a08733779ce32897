-- A site's rasters are those of an empty file read with it. Assumes nothing.
use Prim.Native.Nat.{ℕ}
use mathlib.Core.List.{List, []}
use mathlib.Core.Path.{◌≡◌, refl}
use Rattle.text.specs.Lines.{lines_of}
use Rattle.file.specs.Whole.{gathered}
use Rattle.shape.specs.declared.Edition.TheVariants.{V13}
use Rattle.definitions.specs.Definitions.{definitions_of, sought, either_of, definition_of}
use Rattle.rasters.specs.Rasters.{text_of, rasters_of}
use Rattle.needs.specs.Needs.{site_raster, site_rasters}

pub site-alone : (site : List ℕ) → rasters_of V13 [] site ≡ site_rasters site
unfolding rasters_of text_of definition_of definitions_of lines_of gathered sought either_of site_rasters site_raster
site-alone site = refl
