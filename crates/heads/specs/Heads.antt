-- Lines that have a form of their own: labels, `extension` lines, and the two lines of a shape's head.
use Rattle.std.specs.Prelude.{ℕ, Bool, true, false, cond, ◌&&◌, ◌||◌, List, [], ◌∷◌, leb, eqb, length, None, Option, Some, ℤ}
use Rattle.text.specs.Words.{same_bytes, place_of}
use Rattle.numeral.specs.Integer.{largest_id, integer_of, signed_as, counter_of}
use Rattle.shape.specs.declared.Edition.{Edition}
use Rattle.shape.specs.declared.Edition.TheVariants.{V13, V14}
use Rattle.heads.specs.declared.Label.{Label as LabelLine}
use Rattle.heads.specs.declared.Extension.{Extension as ExtensionLine}

-- ---- "LABELSET and LABELINC: id, value, label; LIN PAR SLC SEG REP AVG SET ECO PHS are counters from -M to M; NAV REV SMS are 0 or 1, set only;
-- ONCE, set only and 1.4 only, 0 to M. Other labels are FIELD." A label's number is its place in this list.
unfoldable pub label_names : List (List ℕ)
label_names =
    (76 ∷ 73 ∷ 78 ∷ [])
    ∷ (80 ∷ 65 ∷ 82 ∷ [])
    ∷ (83 ∷ 76 ∷ 67 ∷ [])
    ∷ (83 ∷ 69 ∷ 71 ∷ [])
    ∷ (82 ∷ 69 ∷ 80 ∷ [])
    ∷ (65 ∷ 86 ∷ 71 ∷ [])
    ∷ (83 ∷ 69 ∷ 84 ∷ [])
    ∷ (69 ∷ 67 ∷ 79 ∷ [])
    ∷ (80 ∷ 72 ∷ 83 ∷ [])
    ∷ (78 ∷ 65 ∷ 86 ∷ [])
    ∷ (82 ∷ 69 ∷ 86 ∷ [])
    ∷ (83 ∷ 77 ∷ 83 ∷ [])
    ∷ (79 ∷ 78 ∷ 67 ∷ 69 ∷ [])
    ∷ []

unfoldable pub is_v14 : Edition → Bool
is_v14 V13 = false
is_v14 V14 = true

-- the value of a label that is set: a counter, a flag, or ONCE
unfoldable pub set_value : Edition → ℕ → List ℕ → Option ℤ
set_value edition label field =
    cond (leb 1 label && leb label 9) (counter_of largest_id field)
    (cond (leb 10 label && leb label 12) (signed_as false (integer_of 0 1 field))
    (cond (eqb label 13 && is_v14 edition) (signed_as false (integer_of 0 largest_id field)) None))

-- of one that is incremented: a counter alone
unfoldable pub increment_value : ℕ → List ℕ → Option ℤ
increment_value label field = cond (leb 1 label && leb label 9) (counter_of largest_id field) None

unfoldable pub label_value : Edition → Bool → ℕ → List ℕ → Option ℤ
label_value edition increment label field = cond increment (increment_value label field) (set_value edition label field)

-- what a label's line holds
abbrev pub Label : ℕ → ℤ → ℕ → Option LabelLine
Label id value label = Some (record { id = id; value = value; label = label })

-- "10 label (id, 0 set or 1 increment, value, label 1 to 13 as listed)": the id, the value and the label of a line
unfoldable pub label_head : Option ℕ → Option ℤ → ℕ → Option LabelLine
label_head (Some id) (Some v) label = Label id v label
label_head (Some id) None label = None
label_head None v label = None

unfoldable pub label_fields : Edition → Bool → List ℕ → List ℕ → List ℕ → Option LabelLine
label_fields edition increment id value name =
    label_head (integer_of 1 largest_id id) (label_value edition increment (place_of label_names name) value) (place_of label_names name)

unfoldable pub label_of : Edition → Bool → List (List ℕ) → Option LabelLine
label_of edition increment (f ∷ g ∷ h ∷ []) = label_fields edition increment f g h
label_of edition increment [] = None
label_of edition increment (f ∷ []) = None
label_of edition increment (f ∷ g ∷ []) = None
label_of edition increment (f ∷ g ∷ h ∷ k ∷ fs) = None

-- ---- "a line `extension NAME type` (NAME 1 to 32 letters, digits, underscores)". "8 extension (type; 0 unknown, 1 TRIGGERS, 2 LABELSET, 3
-- LABELINC)"
unfoldable pub is_name_byte : ℕ → Bool
is_name_byte b = (leb 48 b && leb b 57) || (leb 65 b && leb b 90) || (leb 97 b && leb b 122) || eqb b 95

unfoldable pub all_name_bytes : List ℕ → Bool
all_name_bytes [] = true
all_name_bytes (b ∷ s) = is_name_byte b && all_name_bytes s

unfoldable pub is_name : List ℕ → Bool
is_name s = leb 1 (length s) && leb (length s) 32 && all_name_bytes s

unfoldable pub extension_names : List (List ℕ)
extension_names =
    (84 ∷ 82 ∷ 73 ∷ 71 ∷ 71 ∷ 69 ∷ 82 ∷ 83 ∷ [])
    ∷ (76 ∷ 65 ∷ 66 ∷ 69 ∷ 76 ∷ 83 ∷ 69 ∷ 84 ∷ [])
    ∷ (76 ∷ 65 ∷ 66 ∷ 69 ∷ 76 ∷ 73 ∷ 78 ∷ 67 ∷ [])
    ∷ []

unfoldable pub extension_word : List ℕ
extension_word = 101 ∷ 120 ∷ 116 ∷ 101 ∷ 110 ∷ 115 ∷ 105 ∷ 111 ∷ 110 ∷ []

-- what an `extension` line holds
abbrev pub Extension : ℕ → ℕ → Option ExtensionLine
Extension number code = Some (record { number = number; code = code })

unfoldable pub extension_head : Option ℕ → ℕ → Option ExtensionLine
extension_head (Some type) code = Extension type code
extension_head None code = None

unfoldable pub extension_fields : List ℕ → List ℕ → List ℕ → Option ExtensionLine
extension_fields word name number =
    cond (same_bytes word extension_word && is_name name) (extension_head (integer_of 1 largest_id number) (place_of extension_names name)) None

unfoldable pub extension_of : List (List ℕ) → Option ExtensionLine
extension_of (f ∷ g ∷ h ∷ []) = extension_fields f g h
extension_of [] = None
extension_of (f ∷ []) = None
extension_of (f ∷ g ∷ []) = None
extension_of (f ∷ g ∷ h ∷ k ∷ fs) = None

-- ---- "A shape is `shape_id N`, the next noncomment line `num_samples N`": a word and a number in a range
unfoldable pub word_number_of : List ℕ → ℕ → ℕ → List (List ℕ) → Option ℕ
word_number_of word low high (f ∷ g ∷ []) = cond (same_bytes f word) (integer_of low high g) None
word_number_of word low high [] = None
word_number_of word low high (f ∷ []) = None
word_number_of word low high (f ∷ g ∷ h ∷ fs) = None
