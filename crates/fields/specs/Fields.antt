-- The fields of a line: its runs of bytes that are not blank. And a text without the blanks around it.
use Rattle.std.specs.Prelude.{ℕ, suc, ◌+◌, Bool, true, cond, ◌&&◌, List, [], ◌∷◌, ◌++◌, eqb, drop, take}
use Rattle.text.specs.Lines.{onto}
use Rattle.text.specs.Marks.{is_blank}
use Rattle.text.specs.Blanks.{blank_len, skipped}
use Rattle.fields.specs.declared.Part.{Part}

-- ---- Fields
-- no field goes on here
unfoldable pub ends_field : List ℕ → Bool
ends_field [] = true
ends_field (c ∷ s) = is_blank c

unfoldable pub fields_of : List ℕ → List (List ℕ)
fields_of [] = []
fields_of (c ∷ s) = cond (is_blank c) (fields_of s) (cond (ends_field s) ((c ∷ []) ∷ fields_of s) (onto c (fields_of s)))

-- ---- "single spaces": words with a space, 32, between each two
-- each with a space in front
unfoldable pub spaced : List (List ℕ) → List ℕ
spaced [] = []
spaced (w ∷ ws) = 32 ∷ w ++ spaced ws

unfoldable pub joined : List (List ℕ) → List ℕ
joined [] = []
joined (w ∷ ws) = w ++ spaced ws

-- ---- "trimmed"
-- how long a text is without the blanks at its end
unfoldable pub body_len : List ℕ → ℕ
body_len [] = 0
body_len (c ∷ s) = cond (is_blank c && eqb (body_len s) 0) 0 (suc (body_len s))

unfoldable pub trimmed : List ℕ → List ℕ
trimmed s = take (body_len (drop (blank_len s) s)) (drop (blank_len s) s)

-- ---- Places in a line
-- how many bytes that are not blank stand in front
unfoldable pub word_len : List ℕ → ℕ
word_len [] = 0
word_len (c ∷ s) = cond (is_blank c) 0 (suc (word_len s))

-- the first field from `at` on; empty where there is none
unfoldable pub field_at : List ℕ → ℕ → Part
field_at line at = record { start = skipped line at; stop = skipped line at + word_len (drop (skipped line at) line) }

-- what stands from `at` on, trimmed
unfoldable pub trimmed_at : List ℕ → ℕ → Part
trimmed_at line at = record { start = skipped line at; stop = skipped line at + body_len (drop (skipped line at) line) }
