-- `definitions::is_defined` meets its contract. Assumes nothing.
use mathlib.Core.Bool.{false}
use mathlib.Core.Path.{◌≡◌, refl, sym, ap}
use Rattle.places.specs.declared.Found.{Found}
use Rattle.places.specs.declared.Found.TheVariants.{Nothing, Row, Definition, Fault}
use Rattle.file.specs.Whole.{is_defined}
use Rattle.definitions.proofs.is_defined.Goals as goal

other : (found : Found) → (found ≡ Definition → ⊥) → false ≡ is_defined found
unfolding is_defined
other Nothing n = refl
other Row n = refl
other Definition n = absurd (n refl)
other (Fault f) n = refl

pub returns-in-Definition : goal.returns-in-Definition
unfolding is_defined
returns-in-Definition c = sym (ap is_defined c.in-Definition.is)

pub returns-in_default : goal.returns-in_default
returns-in_default c = other _ c.in_default.not-Definition
