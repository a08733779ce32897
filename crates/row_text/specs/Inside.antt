-- What the inner functions answer. Nothing here needs to be believed: laws lead from these to the definitions of the other files.
use Rattle.std.specs.Prelude.{ℕ, cond, List, [], ◌∷◌, ℤ}
use Rattle.columns.specs.Columns.{is_absent}
use Rattle.columns.specs.declared.Kind.{Kind}
use Rattle.row_text.specs.Printed.{field_text}

-- a column's text behind others: a space in front; of an absent column nothing
unfoldable pub column_text : Kind → List ℤ → List ℕ
column_text k vs = cond (is_absent k) [] (32 ∷ field_text k vs)
