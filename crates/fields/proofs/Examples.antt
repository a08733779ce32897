-- Worked examples, computed from the definitions.
use mathlib.Core.Path.{◌≡◌, refl}
use mathlib.Core.List.{[], ◌∷◌}
use Rattle.text.specs.Lines.{onto}
use Rattle.text.specs.Marks.{is_blank}
use Rattle.text.specs.Blanks.{blank_len}
use Rattle.fields.specs.Fields.{ends_field, fields_of, body_len, trimmed}

-- '\tab  c\t'
fields-tabs : fields_of (9 ∷ 97 ∷ 98 ∷ 32 ∷ 32 ∷ 99 ∷ 9 ∷ []) ≡ (97 ∷ 98 ∷ []) ∷ (99 ∷ []) ∷ []
unfolding is_blank onto ends_field fields_of
fields-tabs = refl

-- ' a b\t ': blanks inside stay
trimmed-inside : trimmed (32 ∷ 97 ∷ 32 ∷ 98 ∷ 9 ∷ 32 ∷ []) ≡ 97 ∷ 32 ∷ 98 ∷ []
unfolding is_blank blank_len body_len trimmed
trimmed-inside = refl

trimmed-blanks : trimmed (32 ∷ 9 ∷ []) ≡ []
unfolding is_blank blank_len body_len trimmed
trimmed-blanks = refl
