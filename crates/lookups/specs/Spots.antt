-- Where something stands that is looked up. "A value sought by key is a part of the file's text or of the site's, the file's if both, empty if
-- neither or on a fault of 1 to 5, 8 or 9."
use Rattle.std.specs.Prelude.{ℕ, ◌-◌, cond, List, [], ltb, ℤ, take, drop, Option, Some, None}
use Rattle.fields.specs.declared.Part.{Part}
use Rattle.definitions.specs.Places.{file_place, site_place}
use Rattle.stored.specs.Places.{stored_place}
use Rattle.lookups.specs.Looking.{is_faulty}
use Rattle.lookups.specs.declared.Source.{Source}
use Rattle.lookups.specs.declared.Source.TheVariants.{File, Site}
use Rattle.lookups.specs.declared.Stretch.{Stretch}

-- ---- Nowhere, or in one of the texts, from a place on and so many bytes long
abbrev pub Spot : Type 0
Spot = Option Stretch

abbrev pub In : Source → ℕ → ℕ → Spot
In source start n = Some (record { source = source; start = start; length = n })

-- ---- Each case as numbers: 0 for none, 1 for the file's text and 2 for the site's; where the part starts, and how long it is
abbrev pub source_number : Source → ℕ
source_number File = 1
source_number Site = 2

abbrev pub spot_number : Spot → ℕ
spot_number None = 0
spot_number (Some part) = source_number part.source

abbrev pub spot_start : Spot → ℕ
spot_start None = 0
spot_start (Some part) = part.start

abbrev pub spot_length : Spot → ℕ
spot_length None = 0
spot_length (Some part) = part.length

-- ---- The text that something stands in, and what stands there
abbrev pub source_text : List ℕ → List ℕ → Source → List ℕ
source_text file site File = file
source_text file site Site = site

unfoldable pub spot_text : List ℕ → List ℕ → Spot → List ℕ
spot_text file site None = []
spot_text file site (Some part) = take part.length (drop part.start (source_text file site part.source))

-- ---- A part of one of the texts; an empty one is none
unfoldable pub spot_in : Source → Part → Spot
spot_in source p = cond (ltb p.start p.stop) (In source p.start (p.stop - p.start)) None

-- ---- "the file's if both, empty if neither"
abbrev pub either_spot : Spot → Spot → Spot
either_spot None second = second
either_spot (Some part) second = Some part

unfoldable pub definition_spot : List ℕ → List ℕ → List ℕ → Spot
definition_spot file site key = cond (is_faulty file site) None (either_spot (spot_in File (file_place file key)) (spot_in Site (site_place site key)))

-- ---- "The shape's stored lines are handed back as a part of the file's text ..; empty as above."
unfoldable pub stored_spot : List ℕ → List ℕ → ℤ → Spot
stored_spot file site id = cond (is_faulty file site) None (spot_in File (stored_place file id))
