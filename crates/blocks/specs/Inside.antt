-- What the inner functions answer. Nothing here needs to be believed: laws lead from these to the definitions of the other files.
use Rattle.std.specs.Prelude.{ℕ, Bool, false, cond, ◌||◌, List, ◌≡◌, ltb, ℤ, pos}
use Rattle.std.specs.Coded.{Π_prop, Coded-set, coded_bool}
use Rattle.signed.specs.Signed.{same_z}
use Rattle.unit.specs.Time.{capped}
use Rattle.unit.specs.declared.Rasters.{Rasters}
use Rattle.shape.specs.declared.Edition.{Edition}
use Rattle.shape.specs.declared.Edition.TheVariants.{V13, V14}
use Rattle.columns.specs.Columns.{form_number}
use Rattle.columns.specs.declared.Form.TheVariants.{Trigger as TriggerForm}
use Rattle.tables.specs.Tables.{first_such, number_at, class_number}
use Rattle.tables.specs.declared.Class.TheVariants.{Entry}
use Rattle.references.specs.References.{misses_at, dangles_at}
use Rattle.lengths.specs.Lengths.{length_at}
use Rattle.blocks.specs.Blocks.{chain_length, number_length, longest_event, is_long, outlasts_at}

-- whether any of n rows is a trigger; and that where a flag is false, none is
unfoldable pub is_trigger : List ℤ → ℕ → Bool
is_trigger rows k = same_z (number_at rows k 0) (pos (form_number TriggerForm))

unfoldable pub has_triggers : List ℤ → ℕ → Bool
has_triggers rows n = ltb (first_such (is_trigger rows) 0 n) n

unfoldable pub Timed : Bool → List ℤ → ℕ → Type 0
Timed timed rows n = timed ≡ false → has_triggers rows n ≡ false

-- that there is one proof of it, so that a struct can hold it
pub Timed-prop : (timed : Bool) (rows : List ℤ) (n : ℕ) → IsProp (Timed timed rows n)
unfolding Timed
Timed-prop timed rows n = Π_prop (λ e. Coded-set coded_bool (has_triggers rows n) false)

-- how long that lasts which a number of this class refers to and which is row k
unfoldable pub found_length : Rasters → List ℤ → ℕ → List ℤ → ℤ → ℕ → ℕ
found_length q rows n samples class k = cond (same_z class (pos (class_number Entry))) (chain_length q rows n samples 256 k) (length_at q rows n samples k)

-- whether number c of block k refers to a row that is not there, or to what lasts longer than a cap; and whether any number does
unfoldable pub number_breaks : Edition → Rasters → List ℤ → ℕ → List ℤ → ℕ → ℕ → ℕ → Bool
number_breaks e q rows n samples k cap c = misses_at e rows n k c || ltb cap (capped (number_length e q rows n samples k c))

unfoldable pub some_breaks : Edition → Rasters → List ℤ → ℕ → List ℤ → ℕ → ℕ → Bool
some_breaks e q rows n samples k cap = dangles_at e rows n k || ltb cap (capped (longest_event e q rows n samples k))

-- whether block k breaks a rule: REFERENCE, LONG, or OUTLASTS, which is asked in 1.4
unfoldable pub block_breaks : Edition → Rasters → List ℤ → ℕ → List ℤ → ℕ → Bool
block_breaks V13 q rows n samples k = dangles_at V13 rows n k || is_long V13 q rows n samples k
block_breaks V14 q rows n samples k = dangles_at V14 rows n k || (is_long V14 q rows n samples k || outlasts_at q rows n samples k)
