-- What restating asks of its source: all that reading asks, with SITE and RASTER asked for restating. "SITE applies to 1.3 files and to all
-- restating." "Then 6 to 19 in order".
use Rattle.std.specs.Prelude.{ℕ, Bool, false, cond, not, ◌&&◌, List, ltb, Err, Ok}
use Rattle.unit.specs.declared.Rasters.{Rasters}
use Rattle.shape.specs.declared.Edition.{Edition}
use Rattle.shape.specs.declared.Edition.TheVariants.{V13}
use Rattle.file.specs.Rows.{scanned_of}
use Rattle.file.specs.Outcome.{Scanned}
use Rattle.definitions.specs.Definitions.{site_fault}
use Rattle.rasters.specs.Rasters.{rasters_of}
use Rattle.needs.specs.Needs.{site_rasters, lacks_for}
use Rattle.answers.specs.Answers.{refusal_number}
use Rattle.answers.specs.declared.Refusal.TheVariants.{Site, Raster}
use Rattle.answers.specs.Outcome.{Answer, Refused}

-- ---- The edition of a source, and the rasters that it goes by; a file with a faulty line, which is refused before, counts as 1.3
unfoldable pub edition_in : Scanned → Edition
edition_in (Ok got) = got.edition
edition_in (Err why) = V13

unfoldable pub own_rasters : List ℕ → List ℕ → Rasters
own_rasters file site = rasters_of (edition_in (scanned_of file)) file site

-- ---- A refusal with a lower number than this
unfoldable pub is_below : ℕ → Answer → Bool
is_below number (Ok got) = false
is_below number (Err why) = ltb (refusal_number why.refusal) number

-- ---- SITE and RASTER in their places among what reading answers
unfoldable pub bad_site_for : List ℕ → Answer → Bool
bad_site_for site read = not (is_below (refusal_number Site) read) && site_fault site

unfoldable pub lacks_rasters : Edition → List ℕ → List ℕ → Bool
lacks_rasters target file site = lacks_for target (edition_in (scanned_of file)) (own_rasters file site) (site_rasters site)

unfoldable pub lacking_for : Edition → List ℕ → List ℕ → Answer → Bool
lacking_for target file site read = not (is_below (refusal_number Raster) read) && lacks_rasters target file site

unfoldable pub asked_for : Edition → List ℕ → List ℕ → Answer → Answer
asked_for target file site read = cond (bad_site_for site read) (Refused Site 0) (cond (lacking_for target file site read) (Refused Raster 0) read)
