-- EXTENSIONS of a restated text. "EXTENSIONS id, type, ref, next, until a line `extension NAME type`, whose rows follow. TRIGGERS: id, type, channel,
-- delay, duration. LABELSET and LABELINC: id, value, label". "rows in file order, single spaces, LF".
use Rattle.std.specs.Prelude.{ℕ, Bool, cond, ◌||◌, List, [], ◌∷◌, ◌++◌, ℤ, pos, nat_abs, get_or}
use Rattle.fields.specs.Fields.{joined}
use Rattle.print.specs.Printed.{signed_text}
use Rattle.shape.specs.declared.Edition.{Edition}
use Rattle.columns.specs.Columns.{form_number, extension_kind, label_kind}
use Rattle.columns.specs.declared.Form.TheVariants.{Entry, Trigger}
use Rattle.heads.specs.Heads.{label_names, extension_names, extension_word}
use Rattle.tables.specs.Tables.{number_at}
use Rattle.sayable.specs.Sayable.{is_kind}
use Rattle.said.specs.Said.{numbers_at, line_text, lines_text, has_kind, section_of}

-- ---- A name by its place in a list, from 1: "1 TRIGGERS, 2 LABELSET, 3 LABELINC", "label 1 to 13 as listed"
unfoldable pub word_at : List (List ℕ) → ℕ → List ℕ
word_at words place = get_or ([] ∷ words) place []

abbrev pub name_at : List (List ℕ) → ℤ → List ℕ
name_at names z = word_at names (nat_abs z)

-- three words of a line
unfoldable pub three_words : List ℕ → List ℕ → List ℕ → List ℕ
three_words a b c = joined (a ∷ b ∷ c ∷ []) ++ (10 ∷ [])

-- ---- "`extension NAME type`" of row k, "8 extension (type; ..)"
unfoldable pub extension_line : List ℤ → ℕ → List ℕ
extension_line rows k = three_words extension_word (name_at extension_names (number_at rows k 2)) (signed_text (number_at rows k 1))

-- ---- "id, value, label" of row k, "10 label (id, 0 set or 1 increment, value, label ..)"
unfoldable pub label_line : List ℤ → ℕ → List ℕ
label_line rows k = three_words (signed_text (number_at rows k 1)) (signed_text (number_at rows k 3)) (name_at label_names (number_at rows k 4))

-- ---- The line of row k in this section, if it is one of its rows
unfoldable pub listed_line : Edition → List ℤ → ℕ → List ℕ
listed_line target rows k =
    cond (is_kind rows k (pos (form_number Entry))) (line_text target Entry (numbers_at rows k))
    (cond (is_kind rows k (pos extension_kind)) (extension_line rows k)
    (cond (is_kind rows k (pos (form_number Trigger))) (line_text target Trigger (numbers_at rows k)) (cond (is_kind rows k (pos label_kind)) (label_line rows k) [])))

abbrev pub listed_text : Edition → List ℤ → ℕ → List ℕ
listed_text target rows n = lines_text (listed_line target rows) 0 n

-- ---- The section of n rows: [EXTENSIONS], its lines and a blank line
unfoldable pub has_listed : List ℤ → ℕ → Bool
has_listed rows n =
    has_kind (pos (form_number Entry)) rows n || (has_kind (pos extension_kind) rows n || (has_kind (pos (form_number Trigger)) rows n || has_kind (pos label_kind) rows n))

abbrev pub extensions_head : List ℕ
extensions_head = 91 ∷ 69 ∷ 88 ∷ 84 ∷ 69 ∷ 78 ∷ 83 ∷ 73 ∷ 79 ∷ 78 ∷ 83 ∷ 93 ∷ 10 ∷ []

unfoldable pub extension_section : Edition → List ℤ → ℕ → List ℕ
extension_section target rows n = section_of (has_listed rows n) extensions_head (listed_text target rows n)
