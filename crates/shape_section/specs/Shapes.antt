-- SHAPES of a restated text. "A shape is `shape_id N`, the next noncomment line `num_samples N`, then one decimal a line to a blank line"; "one blank
-- line after each section and each shape (one, not two, where both end)".
use Rattle.std.specs.Prelude.{ℕ, cond, List, [], ◌∷◌, ◌++◌, ℤ, pos}
use Rattle.print.specs.Printed.{signed_text}
use Rattle.shape.specs.declared.Edition.{Edition}
use Rattle.shape_text.specs.Written.{stored_text}
use Rattle.columns.specs.Columns.{shape_kind}
use Rattle.tables.specs.Tables.{number_at, samples_at}
use Rattle.grammar.specs.Steps.{shape_id_word, num_samples_word}
use Rattle.sayable.specs.Sayable.{is_kind}
use Rattle.said.specs.Said.{lines_text, has_kind}

-- ---- [SHAPES], and LF
unfoldable pub shapes_head : List ℕ
shapes_head = 91 ∷ 83 ∷ 72 ∷ 65 ∷ 80 ∷ 69 ∷ 83 ∷ 93 ∷ 10 ∷ []

-- ---- A word, a space, a number, and LF: "counts and dwell plain", "IDs stay"
unfoldable pub word_line : List ℕ → ℤ → List ℕ
word_line word z = word ++ (32 ∷ (signed_text z ++ (10 ∷ [])))

-- ---- The shape of row k, its samples in the form that the target has for them, and a blank line
unfoldable pub shape_text : Edition → List ℤ → List ℤ → ℕ → List ℕ
shape_text target rows samples k =
    word_line shape_id_word (number_at rows k 1)
    ++ (word_line num_samples_word (number_at rows k 2) ++ (stored_text target (samples_at rows k samples) ++ (10 ∷ [])))

unfoldable pub shape_line : Edition → List ℤ → List ℤ → ℕ → List ℕ
shape_line target rows samples k = cond (is_kind rows k (pos shape_kind)) (shape_text target rows samples k) []

-- ---- The section, "rows in file order", if there is a shape among n rows. The blank line after it is the last shape's
abbrev pub shapes_text : Edition → List ℤ → ℕ → List ℤ → List ℕ
shapes_text target rows n samples = lines_text (shape_line target rows samples) 0 n

unfoldable pub shape_section : Edition → List ℤ → ℕ → List ℤ → List ℕ
shape_section target rows n samples = cond (has_kind (pos shape_kind) rows n) (shapes_head ++ shapes_text target rows n samples) []
