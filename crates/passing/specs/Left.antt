-- Sections that were met and left, and the section that a line belongs to by what it gave.
use Rattle.std.specs.Prelude.{ℕ, Bool, false, cond, eqb, ℤ, pos, get_or}
use Rattle.signed.specs.Signed.{same_z}
use Rattle.columns.specs.Columns.{extension_kind, shape_kind}
use Rattle.places.specs.Places.{section_in}
use Rattle.places.specs.declared.Found.{Found}
use Rattle.places.specs.declared.Found.TheVariants.{Nothing, Row, Definition, Fault as FoundFault}
use Rattle.places.specs.declared.State.{State}
use Rattle.places.specs.declared.Stepped.{Stepped}

-- which of the sections that are sought again what a line gave belongs to: a definition, an `extension` line, or a shape
unfoldable pub found_section : Found → ℤ → ℕ
found_section Nothing kind = 0
found_section Row kind = cond (same_z kind (pos extension_kind)) 8 (cond (same_z kind (pos shape_kind)) 9 0)
found_section Definition kind = 2
found_section (FoundFault fault) kind = 0

unfoldable pub given_section : Stepped → ℕ
given_section r = found_section r.found (get_or r.cells 0 (pos 0))

-- was section k met, and left?
unfoldable pub left_of : State → ℕ → Bool
left_of st k = cond (eqb (section_in st.place) k) false (get_or st.seen k false)
