-- Which lines are passed over where a file stands: comments, rows that are read by their columns, values of a shape, and what stands in SIGNATURE.
use Rattle.std.specs.Prelude.{Bool, true, false}
use Rattle.text.specs.declared.Mark.{Mark}
use Rattle.text.specs.declared.Mark.TheVariants.{Blank, Comment, Section as SectionLine, Plain}
use Rattle.places.specs.declared.Lines.{Lines}
use Rattle.places.specs.declared.Lines.TheVariants.{None as NoLines, Definitions, Rows, Shapes}
use Rattle.places.specs.declared.Place.{Place}
use Rattle.places.specs.declared.Place.TheVariants.{Start, Version, Section, Extensions, Head, Values, Signature}

abbrev pub passes_in : Lines → Bool
passes_in NoLines = false
passes_in Definitions = false
passes_in (Rows form) = true
passes_in Shapes = false

abbrev pub passes_at : Place → Bool
passes_at Start = false
passes_at (Version due) = false
passes_at (Section lines) = passes_in lines
passes_at (Extensions listed) = false
passes_at (Head id n) = false
passes_at Values = true
passes_at Signature = true

abbrev pub passes_of : Place → Mark → Bool
passes_of place Blank = false
passes_of place Comment = true
passes_of place SectionLine = false
passes_of place Plain = passes_at place
