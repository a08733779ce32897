-- Definitions. "Definition: a key, then a nonempty value, trimmed."
use Rattle.std.specs.Prelude.{ℕ, Bool, List, [], leb, length, drop, get_or}
use Rattle.fields.specs.Fields.{fields_of, field_at, trimmed, trimmed_at}
use Rattle.fields.specs.declared.Part.{Part}

-- the key is the first field, the value all that stands behind it
unfoldable pub key_of : List ℕ → List ℕ
key_of line = get_or (fields_of line) 0 []

unfoldable pub value_of : List ℕ → List ℕ
value_of line = trimmed (drop (field_at line 0).stop line)

-- where the value stands in its line
unfoldable pub value_part : List ℕ → Part
value_part line = trimmed_at line (field_at line 0).stop

unfoldable pub is_definition : List ℕ → Bool
is_definition line = leb 1 (length (value_of line))
