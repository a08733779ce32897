-- What an inner function answers. Nothing here needs to be believed: a law leads from this to the definitions of the other file.
use Rattle.std.specs.Prelude.{Bool, true, List, ltb, length}
use Rattle.shape.specs.declared.Edition.{Edition}
use Rattle.shape.specs.declared.Edition.TheVariants.{V13, V14}
use Rattle.definitions.specs.Definitions.{Definition}

-- whether there are lines: for 1.4.1 always, since a raster that the file lacks is added
abbrev pub has_lines : Edition → List Definition → Bool
has_lines V13 own = ltb 0 (length own)
has_lines V14 own = true
