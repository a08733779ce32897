-- What an inner function answers. Nothing here needs to be believed: a law leads from this to the definitions of the other file.
use Rattle.std.specs.Prelude.{ℕ, min, cond, List, [], ◌∷◌, ltb, ℤ, pos}
use Rattle.shape.specs.declared.Edition.TheVariants.{V13}
use Rattle.signed.specs.Signed.{largest}
use Rattle.columns.specs.Columns.{form_number}
use Rattle.columns.specs.declared.Form.TheVariants.{Delay}
use Rattle.said.specs.Said.{line_text}
use Rattle.section_text.specs.Sections.{micros_at}

-- the line of the delay row of row k, by how many durations are used before it and with it
unfoldable pub new_line : ℕ → ℕ → List ℤ → ℕ → List ℕ
new_line used next rows k = cond (ltb used next) (line_text V13 Delay (pos (form_number Delay) ∷ pos (min next largest) ∷ pos (min (micros_at rows k) largest) ∷ [])) []
