-- What the inner functions answer. Nothing here needs to be believed: laws lead from these to the definitions of the other files.
use Rattle.std.specs.Prelude.{suc, ◌≤◌, ℤ, pos, negsuc, None, Option, Some, ℕ}
use Rattle.signed.specs.Signed.{largest}
use Rattle.numeral.specs.declared.Shift.{Shift}
use Rattle.numeral.specs.declared.Shift.TheVariants.{Up, Down}

-- ---- A power of ten by which a number goes up or down
unfoldable pub shift_of : ℤ → Shift
shift_of (pos k) = Up k
shift_of (negsuc k) = Down (suc k)

-- ---- A size that an i64 holds with either sign
unfoldable pub Held : Option ℕ → Type 0
Held (Some n) = n ≤ largest
Held None = Unit
