-- What the inner functions answer. Nothing here needs to be believed: laws lead from these to the definitions of the other files.
use Rattle.std.specs.Prelude.{ℕ, ◌+◌, ◌*◌, Bool, true, List, ◌≡◌, ℤ, negsuc}
use Rattle.marks.specs.Marks.{is_marked}
use Rattle.tables.specs.Tables.{samples_at}
use Rattle.events.specs.Use.{all_unit, rises_from}
use Rattle.events.specs.declared.Asked.{Asked}
use Rattle.events.specs.declared.Asked.TheVariants.{Unit, Rising}

-- samples are as is asked: within -1 to 1, or times that rise
unfoldable pub samples_fit : Asked → List ℤ → Bool
samples_fit Unit samples = all_unit samples
samples_fit Rising samples = rises_from (negsuc 0) samples

unfoldable pub asked_number : Asked → ℕ
asked_number Unit = 0
asked_number Rising = 1

-- what is marked of the shapes from a row on is so
pub record Known (rows samples : List ℤ) (first : ℕ) (marks : List ℕ) : Type 0 where
  pub each : (far : ℕ) (asked : Asked) → is_marked marks (far * 2 + asked_number asked) ≡ true → samples_fit asked (samples_at rows (first + far) samples) ≡ true
