-- A row of twelve numbers. "Rows .. kind first, then the columns"; zeros past its own.
use Rattle.std.specs.Prelude.{ℕ, List, ◌∷◌, ℤ, pos, replicate}
use Rattle.std.proofs.lemmas.List.Edits.{sets}

abbrev pub row_width : ℕ
row_width = 12

abbrev pub blank : List ℤ
blank = replicate row_width (pos 0)

unfoldable pub padded : ℕ → List ℤ → List ℤ
padded kind vs = sets blank 0 (pos kind ∷ vs)
