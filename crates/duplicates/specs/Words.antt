-- What may stand once in a file, and the first line at which something is met again. "DUPLICATE: an ID, type, extension name or definition key met
-- again in its class".
use Rattle.std.specs.Prelude.{ℕ, Bool, cond, ◌&&◌, List, [], ◌∷◌, eqb, ltb, ℤ, pos, get_or, None, Option, Some}
use Rattle.text.specs.Lines.{lines_of}
use Rattle.fields.specs.Fields.{fields_of}
use Rattle.text.specs.Words.{same_bytes}
use Rattle.signed.specs.Signed.{same_z}
use Rattle.columns.specs.Columns.{extension_kind}
use Rattle.grammar.specs.Definitions.{key_of}
use Rattle.places.specs.Places.{fresh}
use Rattle.places.specs.declared.Found.{Found}
use Rattle.places.specs.declared.Found.TheVariants.{Nothing as FoundNothing, Row, Definition, Fault as FoundFault}
use Rattle.places.specs.declared.State.{State}
use Rattle.places.specs.declared.Stepped.{Stepped}
use Rattle.file.specs.Whole.{gathered}
use Rattle.file.specs.Rows.{rows_of, line_of}
use Rattle.tables.specs.Tables.{first_again}
use Rattle.duplicates.specs.declared.Sort.{Sort}
use Rattle.duplicates.specs.declared.Sort.TheVariants.{Key, Name}

-- ---- What a line names: a definition its key, a line `extension NAME type` its name, whether that is known or not
unfoldable pub row_names : ℤ → Option Sort
row_names kind = cond (same_z kind (pos extension_kind)) (Some Name) None

unfoldable pub found_names : Found → ℤ → Option Sort
found_names FoundNothing kind = None
found_names Row kind = row_names kind
found_names Definition kind = Some Key
found_names (FoundFault fault) kind = None

unfoldable pub once_of : Stepped → Option Sort
once_of r = found_names r.found (get_or r.cells 0 (pos 0))

-- the key is a definition's first field, the name the field behind `extension`
unfoldable pub word_of : List ℕ → Sort → List ℕ
word_of l Key = key_of l
word_of l Name = get_or (fields_of l) 1 []

-- ---- A word with its line
pub record Word : Type 0 where
  pub line : ℕ
  pub sort : Sort
  pub word : List ℕ

-- one, or none where the line names nothing
unfoldable pub words_in : ℕ → List ℕ → Option Sort → List Word
words_in n l None = []
words_in n l (Some sort) = record { line = n; sort = sort; word = word_of l sort } ∷ []

unfoldable pub word_at : ℕ → List ℕ → Stepped → List Word
word_at n l r = words_in n l (once_of r)

abbrev pub words_from : State → ℕ → List (List ℕ) → List Word
words_from st n ls = gathered word_at st n ls

-- all words of a file, in file order
unfoldable pub words_of : List ℕ → List Word
words_of file = words_from fresh 1 (lines_of file)

-- ---- "in its class": keys are one class and names another; words compare byte for byte
abbrev pub sort_number : Sort → ℕ
sort_number Key = 1
sort_number Name = 2

unfoldable pub is_same : Sort → List ℕ → Word → Bool
is_same sort word v = eqb (sort_number v.sort) (sort_number sort) && same_bytes v.word word

-- ---- The line of the first of these words that is the same; 0 if none is
unfoldable pub next_line : Sort → List ℕ → List Word → ℕ
next_line sort word [] = 0
next_line sort word (v ∷ vs) = cond (is_same sort word v) v.line (next_line sort word vs)

-- ---- The smaller of two lines, where 0 is none
unfoldable pub earlier : ℕ → ℕ → ℕ
earlier a b = cond (eqb a 0) b (cond (eqb b 0) a (cond (ltb b a) b a))

-- ---- "met again": the first line at which a word stands that stood before; 0 if there is none
unfoldable pub again_line : List Word → ℕ
again_line [] = 0
again_line (w ∷ ws) = earlier (next_line w.sort w.word ws) (again_line ws)

-- ---- DUPLICATE "at the first line concerned": of the first of n rows that repeats an ID or type, and of the first word met again, the earlier
unfoldable pub row_again_line : List ℕ → List ℤ → ℕ → ℕ
row_again_line file rows n = cond (ltb (first_again rows n) n) (line_of (rows_of file) (first_again rows n)) 0

unfoldable pub duplicate_line : List ℕ → List ℤ → ℕ → ℕ
duplicate_line file rows n = earlier (row_again_line file rows n) (again_line (words_of file))
