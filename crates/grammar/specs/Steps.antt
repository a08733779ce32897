-- One line where a file stands. "Then 2 to 5 line by line: the first faulty line answers, with its lowest number."
use Rattle.std.specs.Prelude.{ℕ, ◌+◌, min, Bool, true, false, cond, List, [], ◌∷◌, eqb, ℤ, pos, get_or, drop, None, Option, Some}
use Rattle.fields.specs.Fields.{fields_of}
use Rattle.text.specs.Lines.{bare_of, line_at}
use Rattle.text.specs.Marks.{mark_of, breaks_line}
use Rattle.text.specs.Words.{same_bytes}
use Rattle.text.specs.declared.Mark.{Mark}
use Rattle.text.specs.declared.Mark.TheVariants.{Blank, Comment, Section as SectionLine, Plain}
use Rattle.signed.specs.Signed.{largest}
use Rattle.numeral.specs.Integer.{largest_id}
use Rattle.shape.specs.Stored.{item_of}
use Rattle.shape.specs.declared.Item.{Item}
use Rattle.shape.specs.declared.Item.TheVariants.{Value as ItemValue, Skipped, Bad as ItemBad}
use Rattle.columns.specs.Columns.{columns_of, extension_kind, label_kind, shape_kind, most_of}
use Rattle.columns.specs.Rows.{blank, padded}
use Rattle.rows.specs.Cells.{row_from, row_is}
use Rattle.columns.specs.declared.Form.{Form}
use Rattle.columns.specs.declared.Form.TheVariants.{Entry, Trigger}
use Rattle.columns.specs.declared.Kind.TheVariants.{Count}
use Rattle.heads.specs.Heads.{label_of, extension_of, extension_word, word_number_of}
use Rattle.heads.specs.declared.Label.{Label as LabelLine}
use Rattle.heads.specs.declared.Extension.{Extension as ExtensionLine}
use Rattle.grammar.specs.Definitions.{is_definition}
use Rattle.grammar.specs.declared.Read.{Read}
use Rattle.places.specs.declared.Lines.{Lines}
use Rattle.places.specs.declared.Lines.TheVariants.{None as NoLines, Definitions, Rows, Shapes}
use Rattle.places.specs.declared.Listed.{Listed}
use Rattle.places.specs.declared.Listed.TheVariants.{Entries, Triggers, Labels, Unknown}
use Rattle.places.specs.declared.Place.{Place}
use Rattle.places.specs.declared.Place.TheVariants.{Start, Version, Section, Extensions, Head, Values, Signature}
use Rattle.places.specs.declared.Fault.TheVariants.{Line as LineFault, Version as VersionFault, Field as FieldFault}
use Rattle.places.specs.declared.Found.TheVariants.{Row as FoundRow, Definition}
use Rattle.places.specs.declared.State.{State}
use Rattle.places.specs.declared.Stepped.{Stepped}
use Rattle.sections.specs.Version.{version_step}
use Rattle.sections.specs.Entering.{section_step}
use Rattle.places.specs.Places.{went_of, refused_of, moved_of}

-- ---- What a line may give beside: a definition, or a row with its line
abbrev pub defined_of : State → Stepped
defined_of next = record { found = Definition; line = 0; cells = blank; next = next }

abbrev pub gave_of : State → ℕ → List ℤ → Stepped
gave_of next line cells = record { found = FoundRow; line = line; cells = cells; next = next }

-- ---- "Blank lines count only in shapes."
unfoldable pub blank_step : State → Place → Stepped
blank_step st Start = went_of st
blank_step st (Version due) = went_of st
blank_step st (Section lines) = went_of st
blank_step st (Extensions listed) = went_of st
blank_step st (Head id n) = refused_of st FieldFault
blank_step st Values = went_of (moved_of st (Section Shapes))
blank_step st Signature = went_of st

-- ---- Definitions
unfoldable pub definition_step : State → List ℕ → Stepped
definition_step st line = cond (is_definition line) (defined_of st) (refused_of st FieldFault)

-- ---- Rows by their columns
unfoldable pub given_row : State → ℕ → Option (List ℤ) → Stepped
given_row st n (Some cells) = gave_of st n cells
given_row st n None = refused_of st FieldFault

unfoldable pub row_step : State → ℕ → Form → List (List ℕ) → Stepped
row_step st n form fields = given_row st n (row_is form (row_from (columns_of st.edition form) fields))

-- ---- "EXTENSIONS id, type, ref, next, until a line `extension NAME type`, whose rows follow." "8 extension (type; 0 unknown, 1 TRIGGERS, 2
-- LABELSET, 3 LABELINC)", "10 label (id, 0 set or 1 increment, value, label 1 to 13 as listed)"
unfoldable pub label_row : State → ℕ → Bool → Option LabelLine → Stepped
label_row st n increment (Some line) = gave_of st n (padded label_kind (pos line.id ∷ pos (cond increment 1 0) ∷ line.value ∷ pos line.label ∷ []))
label_row st n increment None = refused_of st FieldFault

unfoldable pub label_step : State → ℕ → Bool → List (List ℕ) → Stepped
label_step st n increment fields = label_row st n increment (label_of st.edition increment fields)

-- "Another NAME is an unknown extension: its lines skipped"
unfoldable pub listed_of : ℕ → Listed
listed_of code = cond (eqb code 1) Triggers (cond (eqb code 2) (Labels false) (cond (eqb code 3) (Labels true) Unknown))

unfoldable pub extension_row : State → ℕ → Option ExtensionLine → Stepped
extension_row st n (Some line) = gave_of (moved_of st (Extensions (listed_of line.code))) n (padded extension_kind (pos line.number ∷ pos line.code ∷ []))
extension_row st n None = refused_of st FieldFault

unfoldable pub extension_step : State → ℕ → List (List ℕ) → Stepped
extension_step st n fields = extension_row st n (extension_of fields)

unfoldable pub is_extension : List (List ℕ) → Bool
is_extension fields = same_bytes (get_or fields 0 []) extension_word

unfoldable pub listed_step : State → ℕ → List (List ℕ) → Listed → Stepped
listed_step st n fields Entries = row_step st n Entry fields
listed_step st n fields Triggers = row_step st n Trigger fields
listed_step st n fields (Labels increment) = label_step st n increment fields
listed_step st n fields Unknown = went_of st

unfoldable pub extensions_step : State → ℕ → List (List ℕ) → Listed → Stepped
extensions_step st n fields listed = cond (is_extension fields) (extension_step st n fields) (listed_step st n fields listed)

-- ---- "A shape is `shape_id N`, the next noncomment line `num_samples N`, then one decimal a line to a blank line, a section or the end". "11 shape
-- (id, num_samples, first sample's place from 0)"
unfoldable pub shape_id_word : List ℕ
shape_id_word = 115 ∷ 104 ∷ 97 ∷ 112 ∷ 101 ∷ 95 ∷ 105 ∷ 100 ∷ []

unfoldable pub num_samples_word : List ℕ
num_samples_word = 110 ∷ 117 ∷ 109 ∷ 95 ∷ 115 ∷ 97 ∷ 109 ∷ 112 ∷ 108 ∷ 101 ∷ 115 ∷ []

unfoldable pub head_row : State → ℕ → Option ℕ → Stepped
head_row st n (Some id) = went_of (moved_of st (Head (pos id) n))
head_row st n None = refused_of st FieldFault

unfoldable pub head_step : State → ℕ → List (List ℕ) → Stepped
head_step st n fields = head_row st n (word_number_of shape_id_word 1 largest_id fields)

-- counting samples stops at the largest number that a row can hold, which no file that is not BIG comes near
unfoldable pub counted_of : State → ℕ → State
counted_of st num = record { place = Values; edition = st.edition; seen = st.seen; samples = min (st.samples + num) largest }

unfoldable pub count_row : State → ℤ → ℕ → Option ℕ → Stepped
count_row st id n (Some num) = gave_of (counted_of st num) n (padded shape_kind (id ∷ pos num ∷ pos (min st.samples largest) ∷ []))
count_row st id n None = refused_of st FieldFault

unfoldable pub count_step : State → ℤ → ℕ → List (List ℕ) → Stepped
count_step st id n fields = count_row st id n (word_number_of num_samples_word 1 (most_of Count) fields)

unfoldable pub value_row : State → Item → Stepped
value_row st (ItemValue d) = went_of st
value_row st Skipped = went_of st
value_row st ItemBad = refused_of st FieldFault

-- ---- A line that is no comment, not blank and no section line
unfoldable pub lines_step : State → ℕ → List ℕ → Lines → Stepped
lines_step st n line NoLines = refused_of st VersionFault
lines_step st n line Definitions = definition_step st line
lines_step st n line (Rows form) = row_step st n form (fields_of line)
lines_step st n line Shapes = head_step st n (fields_of line)

unfoldable pub plain_step : State → ℕ → List ℕ → Place → Stepped
plain_step st n line Start = refused_of st VersionFault
plain_step st n line (Version due) = version_step st (fields_of line) due
plain_step st n line (Section lines) = lines_step st n line lines
plain_step st n line (Extensions listed) = extensions_step st n (fields_of line) listed
plain_step st n line (Head id m) = count_step st id m (fields_of line)
plain_step st n line Values = value_row st (item_of line)
plain_step st n line Signature = went_of st

-- ---- Line n where a file stands
unfoldable pub marked_step : State → ℕ → List ℕ → Mark → Stepped
marked_step st n line Comment = went_of st
marked_step st n line Blank = blank_step st st.place
marked_step st n line SectionLine = section_step st line
marked_step st n line Plain = plain_step st n line st.place

unfoldable pub step_of : State → ℕ → List ℕ → Stepped
step_of st n line = cond (breaks_line line) (refused_of st LineFault) (marked_step st n line (mark_of line))

-- ---- The same of the line that starts at a place of a text, and where the next one starts
unfoldable pub read_at : State → ℕ → List ℕ → ℕ → Read
read_at st n text at = record { did = step_of st n (bare_of (drop at text)); next = (line_at text at).next }
