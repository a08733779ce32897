-- ALIGN: "gradient delay, rise, flat and fall are multiples of the gradient raster, RF delay of the RF raster, dwell of the ADC raster". That it
-- is asked in 1.4 alone is for the rules to say.
use Rattle.std.specs.Prelude.{ℕ, ◌*◌, ◌%◌, Bool, false, cond, not, ◌&&◌, ◌||◌, List, eqb, ℤ, pos, nat_abs}
use Rattle.signed.specs.Signed.{same_z}
use Rattle.unit.specs.Time.{capped}
use Rattle.unit.specs.declared.Rasters.{Rasters}
use Rattle.columns.specs.Columns.{form_number}
use Rattle.columns.specs.declared.Form.TheVariants.{Rf as RfForm, Gradient as GradientForm, Trap as TrapForm, Adc as AdcForm}
use Rattle.tables.specs.Tables.{number_at}

-- a time that is no multiple of a raster; none is one of a raster of 0 ns
unfoldable pub is_off : ℕ → ℕ → Bool
is_off ns raster = not (not (eqb raster 0) && eqb (ns % raster) 0)

-- number c of row k, in microseconds
unfoldable pub micros_off : List ℤ → ℕ → ℕ → ℕ → Bool
micros_off rows k raster c = is_off (capped (nat_abs (number_at rows k c) * 1000)) raster

-- "TRAP id, amp, rise, flat, fall, delay"
unfoldable pub trap_off : List ℤ → ℕ → ℕ → Bool
trap_off rows k raster = micros_off rows k raster 4 || (micros_off rows k raster 5 || (micros_off rows k raster 6 || micros_off rows k raster 7))

-- ---- ALIGN, asked of one row
unfoldable pub misaligned_at : Rasters → List ℤ → ℕ → Bool
misaligned_at q rows k =
    cond (same_z (number_at rows k 0) (pos (form_number RfForm))) (micros_off rows k q.rf.0 7)
    (cond (same_z (number_at rows k 0) (pos (form_number GradientForm))) (micros_off rows k q.gradient.0 6)
    (cond (same_z (number_at rows k 0) (pos (form_number TrapForm))) (trap_off rows k q.gradient.0)
    (cond (same_z (number_at rows k 0) (pos (form_number AdcForm))) (is_off (nat_abs (number_at rows k 3)) q.adc.0) false)))
