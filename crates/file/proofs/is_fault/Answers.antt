-- `file::is_fault` meets its contract. Assumes nothing.
use mathlib.Core.Bool.{false}
use mathlib.Core.Path.{◌≡◌, refl, sym, ap}
use Rattle.places.specs.declared.Fault.{Fault as LineFault}
use Rattle.places.specs.declared.Found.{Found}
use Rattle.places.specs.declared.Found.TheVariants.{Nothing, Row, Definition, Fault}
use Rattle.file.specs.Whole.{is_fault}
use Rattle.file.proofs.is_fault.Goals as goal

other : (found : Found) → ((f : LineFault) → found ≡ Fault f → ⊥) → false ≡ is_fault found
unfolding is_fault
other Nothing n = refl
other Row n = refl
other Definition n = refl
other (Fault f) n = absurd (n f refl)

pub returns-in-Fault : goal.returns-in-Fault
unfolding is_fault
returns-in-Fault c = sym (ap is_fault c.in-Fault.is)

pub returns-in_default : goal.returns-in_default
returns-in_default c = other _ c.in_default.not-Fault
