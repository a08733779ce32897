-- Every line of a restated text is short, if the numbers of its rows are no larger than numbers of 64 bits can be. Assumes nothing.
use Prim.Native.Nat.{ℕ, zero, suc, ◌≤◌, min, max}
use mathlib.Core.List.{List, [], ◌∷◌, ◌++◌}
use native.Mathlib.Omega.{arith}
use lib.IntN.{ℤ, pos, nat_abs}
use lib.ListN.{length, get_or, length-append}
use Rattle.text.proofs.Short.{Short, short_none, short-line, short-append}
use Rattle.fields.specs.Fields.{spaced, joined}
use Rattle.signed.specs.Signed.{largest}
use Rattle.print.specs.Printed.{signed_text}
use Rattle.shape.specs.declared.Edition.{Edition}
use Rattle.shape.specs.declared.Edition.TheVariants.{V13, V14}
use Rattle.columns.specs.Columns.{form_number, extension_kind, label_kind}
use Rattle.columns.specs.declared.Form.{Form}
use Rattle.columns.specs.declared.Form.TheVariants.{Block, Rf, Gradient, Trap, Adc, Delay, Entry, Trigger}
use Rattle.heads.specs.Heads.{label_names, extension_names, extension_word}
use Rattle.tables.specs.Tables.{number_at}
use Rattle.durations.specs.Durations.{is_first, delay_number}
use Rattle.sayable.specs.Sayable.{is_kind}
use Rattle.said.specs.Said.{numbers_at, row_line, has_kind}
use Rattle.said.proofs.Short.{Small, AllSmall, short-if, lines-short, section-short, none-small, more-small, signed-short, row-short, numbers-small, row-line-short}
use Rattle.section_text.specs.Sections.{minor_of, version_text, head_text, section_text, micros_at, delay_row, delay_line, has_delays, delay_section}
use Rattle.definition_text.proofs.Shortness.{definitions-short}
use Rattle.extension_text.specs.Extensions.{word_at, name_at, three_words, extension_line, label_line, listed_line, has_listed, extensions_head, extension_section}
use Rattle.shape_section.proofs.Short.{shapes-short}
use Rattle.restated.specs.Text.{delays_for, event_sections, restated_text}

-- ---- VERSION, and the heads of sections
version-short : (target : Edition) → Short (version_text target)
unfolding version_text
version-short target =
    short-line (91 ∷ 86 ∷ 69 ∷ 82 ∷ 83 ∷ 73 ∷ 79 ∷ 78 ∷ 93 ∷ []) (omega arith)
    (short-line (109 ∷ 97 ∷ 106 ∷ 111 ∷ 114 ∷ 32 ∷ 49 ∷ []) (omega arith)
    (short-line (109 ∷ 105 ∷ 110 ∷ 111 ∷ 114 ∷ 32 ∷ minor_of target ∷ []) (omega arith)
    (short-line (114 ∷ 101 ∷ 118 ∷ 105 ∷ 115 ∷ 105 ∷ 111 ∷ 110 ∷ 32 ∷ 49 ∷ []) (omega arith) (short-line [] (omega arith) short_none))))

head-short : (form : Form) → Short (head_text form)
head-short Block = short-line (91 ∷ 66 ∷ 76 ∷ 79 ∷ 67 ∷ 75 ∷ 83 ∷ 93 ∷ []) (omega arith) short_none
head-short Rf = short-line (91 ∷ 82 ∷ 70 ∷ 93 ∷ []) (omega arith) short_none
head-short Gradient = short-line (91 ∷ 71 ∷ 82 ∷ 65 ∷ 68 ∷ 73 ∷ 69 ∷ 78 ∷ 84 ∷ 83 ∷ 93 ∷ []) (omega arith) short_none
head-short Trap = short-line (91 ∷ 84 ∷ 82 ∷ 65 ∷ 80 ∷ 93 ∷ []) (omega arith) short_none
head-short Adc = short-line (91 ∷ 65 ∷ 68 ∷ 67 ∷ 93 ∷ []) (omega arith) short_none
head-short Delay = short-line (91 ∷ 68 ∷ 69 ∷ 76 ∷ 65 ∷ 89 ∷ 83 ∷ 93 ∷ []) (omega arith) short_none
head-short Entry = short_none
head-short Trigger = short_none

extensions-head-short : Short extensions_head
extensions-head-short = short-line (91 ∷ 69 ∷ 88 ∷ 84 ∷ 69 ∷ 78 ∷ 83 ∷ 73 ∷ 79 ∷ 78 ∷ 83 ∷ 93 ∷ []) (omega arith) short_none

-- ---- a name by its place, and three words in a line
abbrev longest : List (List ℕ) → ℕ
longest [] = 0
longest (w ∷ ws) = max (length w) (longest ws)

word-most : (ws : List (List ℕ)) (i : ℕ) → length (get_or ws i []) ≤ longest ws
word-most [] i = omega arith
word-most (w ∷ ws) zero = omega arith
word-most (w ∷ ws) (suc i) = let h = word-most ws i in omega arith

name-short : (names : List (List ℕ)) (z : ℤ) → longest names ≤ 20 → length (name_at names z) ≤ 20
unfolding word_at
name-short names z h = let m = word-most ([] ∷ names) (nat_abs z) in omega arith

module _ (a b c : List ℕ) (h : length a ≤ 20) (k : length b ≤ 20) (l : length c ≤ 20) where
  pub three-length : length (joined (a ∷ b ∷ c ∷ [])) ≤ 1024
  unfolding joined spaced
  three-length = omega (arith, length-append a (32 ∷ b ++ (32 ∷ c ++ [])), length-append b (32 ∷ c ++ []), length-append c [])

  three-short : Short (three_words a b c)
  unfolding three_words
  three-short = short-line (joined (a ∷ b ∷ c ∷ [])) three-length short_none

-- ---- the sections of rows
module _ (rows : List ℤ) (n : ℕ) where
  pub delay-row-small : (k : ℕ) → AllSmall (delay_row rows n k)
  unfolding delay_row
  delay-row-small k =
      let number = pos (min (delay_number rows n k) largest) in
      let micros = pos (min (micros_at rows k) largest) in
      more-small (pos (form_number Delay)) (number ∷ micros ∷ []) (omega arith) (more-small number (micros ∷ []) (omega arith) (more-small micros [] (omega arith) none-small))

  delay-line-short : (k : ℕ) → Short (delay_line rows n k)
  unfolding delay_line
  delay-line-short k = short-if (is_first rows n k) (row-short V13 Delay (delay_row rows n k) (delay-row-small k)) short_none

  delay-section-short : Short (delay_section rows n)
  unfolding delay_section
  delay-section-short = section-short (has_delays rows n) (head-short Delay) (lines-short (delay_line rows n) delay-line-short 0 n)

  delays-short : (target : Edition) → Short (delays_for target rows n)
  unfolding delays_for
  delays-short V13 = delay-section-short
  delays-short V14 = short_none

  module _ (small : Small rows) (target : Edition) where
    rows_short : (raster : ℕ) (form : Form) → Short (section_text target raster form rows n)
    unfolding section_text
    rows_short raster form =
        section-short (has_kind (pos (form_number form)) rows n) (head-short form) (lines-short (row_line target raster form rows n) (row-line-short rows small target raster n form) 0 n)

    events-short : (raster : ℕ) → Short (event_sections target raster rows n)
    unfolding event_sections
    events-short raster = short-append (rows_short raster Rf) (short-append (rows_short raster Gradient) (short-append (rows_short raster Trap) (rows_short raster Adc)))

    -- ---- EXTENSIONS
    extension-line-short : (k : ℕ) → Short (extension_line rows k)
    unfolding extension_line extension_word extension_names
    extension-line-short k =
        three-short extension_word (name_at extension_names (number_at rows k 2)) (signed_text (number_at rows k 1)) (omega arith)
        (name-short extension_names (number_at rows k 2) (omega arith)) (signed-short (number_at rows k 1) (small k 1))

    label-line-short : (k : ℕ) → Short (label_line rows k)
    unfolding label_line label_names
    label-line-short k =
        three-short (signed_text (number_at rows k 1)) (signed_text (number_at rows k 3)) (name_at label_names (number_at rows k 4)) (signed-short (number_at rows k 1) (small k 1))
        (signed-short (number_at rows k 3) (small k 3)) (name-short label_names (number_at rows k 4) (omega arith))

    listed-short : (k : ℕ) → Short (listed_line target rows k)
    unfolding listed_line
    listed-short k =
        short-if (is_kind rows k (pos (form_number Entry))) (row-short target Entry (numbers_at rows k) (numbers-small rows small k))
        (short-if (is_kind rows k (pos extension_kind)) (extension-line-short k)
        (short-if (is_kind rows k (pos (form_number Trigger))) (row-short target Trigger (numbers_at rows k) (numbers-small rows small k))
        (short-if (is_kind rows k (pos label_kind)) (label-line-short k) short_none)))

    extensions-short : Short (extension_section target rows n)
    unfolding extension_section
    extensions-short = section-short (has_listed rows n) extensions-head-short (lines-short (listed_line target rows) listed-short 0 n)

-- ---- all of it
pub text-short : (target : Edition) (raster : ℕ) (file site : List ℕ) (rows : List ℤ) (n : ℕ) (samples : List ℤ) → Small rows
    → Short (restated_text target raster file site rows n samples)
unfolding restated_text
text-short target raster file site rows n samples small =
    short-append (version-short target)
    (short-append (definitions-short target file site)
    (short-append (rows_short rows n small target raster Block)
    (short-append (events-short rows n small target raster)
    (short-append (delays-short rows n target) (short-append (extensions-short rows n small target) (shapes-short target rows samples small n))))))
