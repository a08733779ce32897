-- Sections of a restated text. "Text: VERSION, then the sections as listed above, DELAYS after ADC, empty ones left out, rows in file order, single
-- spaces, LF, one blank line after each section".
use Rattle.unit.specs.declared.Micros.{Micros}
use Rattle.std.specs.Prelude.{ℕ, min, Bool, cond, List, [], ◌∷◌, ltb, ℤ, pos, None, Option, Some}
use Rattle.unit.specs.Time.{in_micros}
use Rattle.shape.specs.declared.Edition.{Edition}
use Rattle.shape.specs.declared.Edition.TheVariants.{V13, V14}
use Rattle.signed.specs.Signed.{largest}
use Rattle.columns.specs.Columns.{form_number}
use Rattle.columns.specs.declared.Form.{Form}
use Rattle.columns.specs.declared.Form.TheVariants.{Block, Rf, Gradient, Trap, Adc, Delay, Entry, Trigger}
use Rattle.sayable.specs.Sayable.{nanos_at}
use Rattle.durations.specs.Durations.{is_first, uses_in, delay_number}
use Rattle.said.specs.Said.{line_text, lines_text, rows_text, has_kind, section_of}

-- ---- [VERSION], major 1, minor 3 or 4, revision 1, and a blank line
abbrev pub minor_of : Edition → ℕ
minor_of V13 = 51
minor_of V14 = 52

unfoldable pub version_text : Edition → List ℕ
version_text target =
    91 ∷ 86 ∷ 69 ∷ 82 ∷ 83 ∷ 73 ∷ 79 ∷ 78 ∷ 93 ∷ 10 ∷ 109 ∷ 97 ∷ 106 ∷ 111 ∷ 114 ∷ 32 ∷ 49 ∷ 10 ∷ 109 ∷ 105 ∷ 110 ∷ 111 ∷ 114 ∷ 32 ∷ minor_of target ∷ 10 ∷ 114 ∷ 101
    ∷ 118 ∷ 105 ∷ 115 ∷ 105 ∷ 111 ∷ 110 ∷ 32 ∷ 49 ∷ 10 ∷ 10 ∷ []

-- ---- The heads: [BLOCKS], [RF], [GRADIENTS], [TRAP], [ADC], [DELAYS]; entries and triggers stand in EXTENSIONS, which has other lines too
abbrev pub head_text : Form → List ℕ
head_text Block = 91 ∷ 66 ∷ 76 ∷ 79 ∷ 67 ∷ 75 ∷ 83 ∷ 93 ∷ 10 ∷ []
head_text Rf = 91 ∷ 82 ∷ 70 ∷ 93 ∷ 10 ∷ []
head_text Gradient = 91 ∷ 71 ∷ 82 ∷ 65 ∷ 68 ∷ 73 ∷ 69 ∷ 78 ∷ 84 ∷ 83 ∷ 93 ∷ 10 ∷ []
head_text Trap = 91 ∷ 84 ∷ 82 ∷ 65 ∷ 80 ∷ 93 ∷ 10 ∷ []
head_text Adc = 91 ∷ 65 ∷ 68 ∷ 67 ∷ 93 ∷ 10 ∷ []
head_text Delay = 91 ∷ 68 ∷ 69 ∷ 76 ∷ 65 ∷ 89 ∷ 83 ∷ 93 ∷ 10 ∷ []
head_text Entry = []
head_text Trigger = []

-- ---- The section of a form, if there are rows of this form among n
unfoldable pub section_text : Edition → ℕ → Form → List ℤ → ℕ → List ℕ
section_text target raster form rows n = section_of (has_kind (pos (form_number form)) rows n) (head_text form) (rows_text target raster form rows n)

-- ---- DELAYS for 1.3.1: a row for each first use, its number and its µs
unfoldable pub whole_micros : Option Micros → ℕ
whole_micros (Some m) = m.0
whole_micros None = 0

unfoldable pub micros_at : List ℤ → ℕ → ℕ
micros_at rows k = whole_micros (in_micros (nanos_at rows k))

-- the row that is made: kind 6, its ID and its µs
unfoldable pub delay_row : List ℤ → ℕ → ℕ → List ℤ
delay_row rows n k = pos (form_number Delay) ∷ pos (min (delay_number rows n k) largest) ∷ pos (min (micros_at rows k) largest) ∷ []

unfoldable pub delay_line : List ℤ → ℕ → ℕ → List ℕ
delay_line rows n k = cond (is_first rows n k) (line_text V13 Delay (delay_row rows n k)) []

abbrev pub delays_text : List ℤ → ℕ → List ℕ
delays_text rows n = lines_text (delay_line rows n) 0 n

-- whether there is a first use among n rows
unfoldable pub has_delays : List ℤ → ℕ → Bool
has_delays rows n = ltb 0 (uses_in rows n 0 n)

unfoldable pub delay_section : List ℤ → ℕ → List ℕ
delay_section rows n = section_of (has_delays rows n) (head_text Delay) (delays_text rows n)
