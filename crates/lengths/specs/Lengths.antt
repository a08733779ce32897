-- Lengths of events, in ns. "Length: delay plus, for RF and gradients, samples times raster, or the last time value times raster; for a
-- trap rise + flat + fall; for ADC num times dwell; for a trigger its duration. Labels and unknown entries last 0."
use Rattle.std.specs.Prelude.{ℕ, ◌+◌, ◌-◌, ◌*◌, ◌/◌, cond, List, ℤ, pos, nat_abs, length, get_or}
use Rattle.signed.specs.Signed.{same_z}
use Rattle.unit.specs.declared.Rasters.{Rasters}
use Rattle.columns.specs.Columns.{form_number}
use Rattle.columns.specs.declared.Form.TheVariants.{Rf as RfForm, Gradient as GradientForm, Trap as TrapForm, Adc as AdcForm, Delay as DelayForm, Trigger as TriggerForm}
use Rattle.tables.specs.Tables.{number_at, samples_of, one}

-- ---- Number c of row k, as a count, and as microseconds
abbrev pub count_at : List ℤ → ℕ → ℕ → ℕ
count_at rows k c = nat_abs (number_at rows k c)

unfoldable pub micros_at : List ℤ → ℕ → ℕ → ℕ
micros_at rows k c = count_at rows k c * 1000

-- ---- "samples times raster, or the last time value times raster": the steps of an event whose amplitude is number 4 and whose time is number c
unfoldable pub last_time : List ℤ → ℕ
last_time times = nat_abs (get_or times (length times - 1) (pos 0)) / one

unfoldable pub steps_at : List ℤ → ℕ → List ℤ → ℕ → ℕ → ℕ
steps_at rows n samples k c =
    cond (same_z (number_at rows k c) (pos 0)) (length (samples_of rows n samples (number_at rows k 4))) (last_time (samples_of rows n samples (number_at rows k c)))

-- ---- The length of one row. "RF id, amp, mag, phase shape, time, delay", "GRADIENTS id, amp, shape, time, delay", "TRAP id, amp, rise, flat,
-- fall, delay", "ADC id, num, dwell, delay", "DELAYS id, delay", "TRIGGERS: id, type, channel, delay, duration"
unfoldable pub shaped_length : List ℤ → ℕ → List ℤ → ℕ → ℕ → ℕ → ℕ → ℕ
shaped_length rows n samples k c delay raster = micros_at rows k delay + steps_at rows n samples k c * raster

unfoldable pub trap_length : List ℤ → ℕ → ℕ
trap_length rows k = micros_at rows k 7 + (micros_at rows k 4 + micros_at rows k 5 + micros_at rows k 6)

unfoldable pub adc_length : List ℤ → ℕ → ℕ
adc_length rows k = micros_at rows k 4 + count_at rows k 2 * count_at rows k 3

unfoldable pub length_of : Rasters → List ℤ → ℕ → List ℤ → ℕ → ℤ → ℕ
length_of q rows n samples k kind =
    cond (same_z kind (pos (form_number RfForm))) (shaped_length rows n samples k 6 7 q.rf.0)
    (cond (same_z kind (pos (form_number GradientForm))) (shaped_length rows n samples k 5 6 q.gradient.0)
    (cond (same_z kind (pos (form_number TrapForm))) (trap_length rows k)
    (cond (same_z kind (pos (form_number AdcForm))) (adc_length rows k)
    (cond (same_z kind (pos (form_number DelayForm))) (micros_at rows k 2)
    (cond (same_z kind (pos (form_number TriggerForm))) (micros_at rows k 4 + micros_at rows k 5) 0)))))

unfoldable pub length_at : Rasters → List ℤ → ℕ → List ℤ → ℕ → ℕ
length_at q rows n samples k = length_of q rows n samples k (number_at rows k 0)
