-- Where a file stands, and what a line may give there.
use Rattle.std.specs.Prelude.{ℕ, false, replicate}
use Rattle.shape.specs.declared.Edition.TheVariants.{V13}
use Rattle.columns.specs.Rows.{blank}
use Rattle.places.specs.declared.Lines.{Lines}
use Rattle.places.specs.declared.Lines.TheVariants.{None as NoLines, Definitions, Rows, Shapes}
use Rattle.places.specs.declared.Place.{Place}
use Rattle.places.specs.declared.Place.TheVariants.{Start, Version, Section, Extensions, Head, Values, Signature}
use Rattle.places.specs.declared.Fault.{Fault}
use Rattle.places.specs.declared.Fault.TheVariants.{Line as LineFault, Version as VersionFault, Section as SectionFault, Field as FieldFault}
use Rattle.places.specs.declared.Found.{Found}
use Rattle.places.specs.declared.Found.TheVariants.{Nothing, Fault as FoundFault}
use Rattle.places.specs.declared.State.{State}
use Rattle.places.specs.declared.Stepped.{Stepped}

-- ---- "2 LINE, 3 VERSION, 4 SECTION, 5 FIELD"
abbrev pub fault_number : Fault → ℕ
fault_number LineFault = 2
fault_number VersionFault = 3
fault_number SectionFault = 4
fault_number FieldFault = 5

-- ---- The sections that are sought again: keys stand in section 2, DEFINITIONS, names of extensions in section 8, EXTENSIONS, and shapes in section 9,
-- SHAPES. Which of them a place is in; 0 if in none
abbrev pub lines_section : Lines → ℕ
lines_section NoLines = 0
lines_section Definitions = 2
lines_section (Rows form) = 0
lines_section Shapes = 9

abbrev pub section_in : Place → ℕ
section_in Start = 0
section_in (Version due) = 0
section_in (Section lines) = lines_section lines
section_in (Extensions listed) = 8
section_in (Head id n) = 9
section_in Values = 9
section_in Signature = 0

-- ---- What a line may give: nothing, or a fault
abbrev pub went_of : State → Stepped
went_of next = record { found = Nothing; line = 0; cells = blank; next = next }

abbrev pub refused_of : State → Fault → Stepped
refused_of st fault = record { found = FoundFault fault; line = 0; cells = blank; next = st }

-- the same state in another place
abbrev pub moved_of : State → Place → State
moved_of st place = record { place = place; edition = st.edition; seen = st.seen; samples = st.samples }

-- ---- Before the first line; the edition is the one of VERSION from there on
abbrev pub fresh : State
fresh = record { place = Start; edition = V13; seen = replicate 12 false; samples = 0 }

-- ---- "A row due when the file ends answers its number"
abbrev pub ending_of : Place → Found
ending_of Start = FoundFault VersionFault
ending_of (Version due) = FoundFault VersionFault
ending_of (Section lines) = Nothing
ending_of (Extensions listed) = Nothing
ending_of (Head id n) = FoundFault FieldFault
ending_of Values = Nothing
ending_of Signature = Nothing
