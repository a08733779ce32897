-- Shapes stand one behind the other in the samples. "11 shape (id, num_samples, first sample's place from 0)".
use Rattle.std.specs.Prelude.{ℕ, ◌+◌, Bool, true, cond, List, [], ◌∷◌, ◌≡◌, ℤ, pos, nat_abs, get_or}
use Rattle.signed.specs.Signed.{same_z}
use Rattle.columns.specs.Columns.{shape_kind}
use Rattle.file.specs.Rows.{Placed}

abbrev pub is_shape_of : List ℤ → Bool
is_shape_of cells = same_z (get_or cells 0 (pos 0)) (pos shape_kind)

-- how many samples a row has: a shape as many as it says, any other none
unfoldable pub shape_count : List ℤ → ℕ
shape_count cells = cond (is_shape_of cells) (nat_abs (get_or cells 2 (pos 0))) 0

-- ---- The samples of some rows go from one place to another: each shape's begin where those before it end
pub data Stacked : ℕ → ℕ → List Placed → Type 0 where
  no_row : {s : ℕ} → Stacked s s []
  one-row : {s e : ℕ} {r : Placed} {rs : List Placed} → (is_shape_of r.cells ≡ true → nat_abs (get_or r.cells 3 (pos 0)) ≡ s)
      → Stacked (s + shape_count r.cells) e rs → Stacked s e (r ∷ rs)
