-- The columns of each kind of row, as data. "Columns: BLOCKS id, duration (1.3: delay ID), rf, gx, gy, gz, adc, ext. RF id, amp, mag, phase
-- shape, time (1.4 only), delay, freq, phase. GRADIENTS id, amp, shape, time (1.4 only), delay. TRAP id, amp, rise, flat, fall, delay. ADC id,
-- num, dwell, delay, freq, phase. DELAYS id, delay. EXTENSIONS id, type, ref, next. TRIGGERS: id, type, channel, delay, duration."
use Rattle.std.specs.Prelude.{ℕ, Bool, true, false, List, [], ◌∷◌}
use Rattle.numeral.specs.Integer.{largest_id}
use Rattle.shape.specs.declared.Edition.{Edition}
use Rattle.shape.specs.declared.Edition.TheVariants.{V13, V14}
use Rattle.columns.specs.declared.Kind.{Kind}
use Rattle.columns.specs.declared.Kind.TheVariants.{Id, Reference, Required, Micros, Duration, Count, Natural, Decimal, Dwell, Absent}
use Rattle.columns.specs.declared.Form.{Form}
use Rattle.columns.specs.declared.Form.TheVariants.{Block, Rf, Gradient, Trap, Adc, Delay, Entry, Trigger}

-- ---- What stands in 1.4 only, and what has changed; the time is absent in 1.3, and a block's ns in every line
abbrev pub time_of : Edition → Kind
time_of V13 = Absent
time_of V14 = Reference

abbrev pub duration_of : Edition → Kind
duration_of V13 = Reference
duration_of V14 = Duration

unfoldable pub columns_of : Edition → Form → List Kind
columns_of e Block = Id ∷ duration_of e ∷ Reference ∷ Reference ∷ Reference ∷ Reference ∷ Reference ∷ Reference ∷ Absent ∷ []
columns_of e Rf = Id ∷ Decimal ∷ Required ∷ Required ∷ time_of e ∷ Micros ∷ Decimal ∷ Decimal ∷ []
columns_of e Gradient = Id ∷ Decimal ∷ Required ∷ time_of e ∷ Micros ∷ []
columns_of e Trap = Id ∷ Decimal ∷ Micros ∷ Micros ∷ Micros ∷ Micros ∷ []
columns_of e Adc = Id ∷ Count ∷ Dwell ∷ Micros ∷ Decimal ∷ Decimal ∷ []
columns_of e Delay = Id ∷ Micros ∷ []
columns_of e Entry = Id ∷ Id ∷ Required ∷ Reference ∷ []
columns_of e Trigger = Id ∷ Natural ∷ Natural ∷ Micros ∷ Micros ∷ []

-- ---- "1 block, 2 RF, 3 gradient, 4 trap, 5 ADC, 6 delay, 7 entry, .. 9 trigger"
abbrev pub form_number : Form → ℕ
form_number Block = 1
form_number Rf = 2
form_number Gradient = 3
form_number Trap = 4
form_number Adc = 5
form_number Delay = 6
form_number Entry = 7
form_number Trigger = 9

-- ---- "8 extension", "10 label", "11 shape": the kinds whose lines have a form of their own
abbrev pub extension_kind : ℕ
extension_kind = 8

abbrev pub label_kind : ℕ
label_kind = 10

abbrev pub shape_kind : ℕ
shape_kind = 11

-- ---- "IDs and types 1 to M = 2,147,483,647; a reference may be 0, except mag, phase and gradient shape IDs and an extension's ref.
-- Microseconds and block durations 0 to 10^9. num and num_samples 1 to 10^6." "type and channel 0 to M". The last three kinds are no integers.
abbrev pub least_of : Kind → ℕ
least_of Id = 1
least_of Reference = 0
least_of Required = 1
least_of Micros = 0
least_of Duration = 0
least_of Count = 1
least_of Natural = 0
least_of Decimal = 0
least_of Dwell = 1
least_of Absent = 0

abbrev pub most_of : Kind → ℕ
most_of Id = largest_id
most_of Reference = largest_id
most_of Required = largest_id
most_of Micros = 1000000000
most_of Duration = 1000000000
most_of Count = 1000000
most_of Natural = largest_id
most_of Decimal = 0
most_of Dwell = 1000000000
most_of Absent = 0

-- a column that no field stands for
abbrev pub is_absent : Kind → Bool
is_absent Id = false
is_absent Reference = false
is_absent Required = false
is_absent Micros = false
is_absent Duration = false
is_absent Count = false
is_absent Natural = false
is_absent Decimal = false
is_absent Dwell = false
is_absent Absent = true

-- how many numbers a column is in a row: "a decimal as two numbers"
abbrev pub width_of : Kind → ℕ
width_of Id = 1
width_of Reference = 1
width_of Required = 1
width_of Micros = 1
width_of Duration = 1
width_of Count = 1
width_of Natural = 1
width_of Decimal = 2
width_of Dwell = 1
width_of Absent = 1
