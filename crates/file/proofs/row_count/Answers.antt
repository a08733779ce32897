-- `file::row_count` meets its contract. Assumes nothing.
use Prim.Native.Nat.{ℕ}
use mathlib.Core.Path.{◌≡◌, refl, sym, ap}
use Rattle.places.specs.declared.Found.{Found}
use Rattle.places.specs.declared.Found.TheVariants.{Nothing, Row, Definition, Fault}
use Rattle.file.specs.Whole.{row_count}
use Rattle.file.proofs.row_count.Goals as goal

other : (found : Found) → (found ≡ Row → ⊥) → 0 ≡ row_count found
other Nothing n = refl
other Row n = absurd (n refl)
other Definition n = refl
other (Fault f) n = refl

pub returns-in-Row : goal.returns-in-Row
returns-in-Row c = sym (ap row_count c.in-Row.is)

pub returns-in_default : goal.returns-in_default
returns-in_default c = other _ c.in_default.not-Row
