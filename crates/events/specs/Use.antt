-- USE: "an event's shapes don't fit it".
use Rattle.std.specs.Prelude.{ℕ, ◌%◌, Bool, true, false, cond, not, ◌&&◌, ◌||◌, List, [], ◌∷◌, eqb, leb, ℤ, pos, negsuc, nat_abs, length}
use Rattle.std.specs.Int.Signed.{lt_z}
use Rattle.signed.specs.Signed.{same_z}
use Rattle.columns.specs.Columns.{form_number}
use Rattle.columns.specs.declared.Form.TheVariants.{Rf as RfForm, Gradient as GradientForm}
use Rattle.tables.specs.Tables.{number_at, samples_of, one}

-- ---- "gradient and magnitude samples lie in -1 to 1"
unfoldable pub all_unit : List ℤ → Bool
all_unit [] = true
all_unit (z ∷ zs) = leb (nat_abs z) one && all_unit zs

-- ---- "a time shape has the amplitude's count, whole, nonnegative, strictly rising": each behind the one before, the first behind -1 step
unfoldable pub follows_of : ℤ → ℤ → Bool
follows_of last z = lt_z last z && eqb (nat_abs z % one) 0

unfoldable pub rises_from : ℤ → List ℤ → Bool
rises_from last [] = true
rises_from last (z ∷ zs) = follows_of last z && rises_from z zs

unfoldable pub time_fits : List ℤ → ℕ → List ℤ → ℤ → ℕ → Bool
time_fits rows n samples id count =
    same_z id (pos 0) || (eqb (length (samples_of rows n samples id)) count && rises_from (negsuc 0) (samples_of rows n samples id))

-- ---- An amplitude, number 4 of RF and gradient, with its time shape, number c
unfoldable pub shaped_fits : List ℤ → ℕ → List ℤ → ℕ → ℕ → Bool
shaped_fits rows n samples k c =
    all_unit (samples_of rows n samples (number_at rows k 4)) && time_fits rows n samples (number_at rows k c) (length (samples_of rows n samples (number_at rows k 4)))

-- "RF magnitude and phase have equal counts"
unfoldable pub rf_fits : List ℤ → ℕ → List ℤ → ℕ → Bool
rf_fits rows n samples k =
    eqb (length (samples_of rows n samples (number_at rows k 4))) (length (samples_of rows n samples (number_at rows k 5))) && shaped_fits rows n samples k 6

-- ---- USE, asked of one row
unfoldable pub misfits_at : List ℤ → ℕ → List ℤ → ℕ → Bool
misfits_at rows n samples k =
    cond (same_z (number_at rows k 0) (pos (form_number RfForm))) (not (rf_fits rows n samples k))
    (cond (same_z (number_at rows k 0) (pos (form_number GradientForm))) (not (shaped_fits rows n samples k 5)) false)
