-- Rows sought line by line. Assumes nothing.
use Prim.Native.Nat.{ℕ}
use mathlib.Core.Bool.{Bool, true, false, cond, ◌&&◌, true≢false}
use mathlib.Core.List.{List, [], ◌∷◌, ◌++◌}
use mathlib.Core.Path.{◌≡◌, refl, sym, ◌∙◌}
use lib.IntN.{ℤ}
use Rattle.places.specs.declared.Stepped.{Stepped}
use Rattle.file.specs.Whole.{is_row, row_count}
use Rattle.file.specs.Rows.{Placed, row_at}
use Rattle.file.proofs.Laying.{row_zero, row-some}
use Rattle.tables.specs.Tables.{is_row_of}
use Rattle.repeats.specs.Repeats.{is_row_like, next_row}
use Rattle.repeats.specs.Inside.{gives_row}

-- ---- by how many rows a line gave
module _ (s : Stepped) (count : ℕ) (p : count ≡ row_count s.found) where
  -- is it of a class, with an ID?
  pub gives_none : (class id : ℤ) → count ≡ 0 → false ≡ gives_row class id s
  unfolding gives_row
  gives_none class id e = rw (row_zero s.found (sym p ∙ e))

  pub gives_one : (class id : ℤ) → (count ≡ 0 → ⊥) → is_row_of s.cells class id 0 ≡ gives_row class id s
  unfolding gives_row
  gives_one class id n = rw (row-some s.found (λ q. n (p ∙ q)))

-- ---- a line's row in front of others
module _ (n : ℕ) (line : List ℕ) (s : Stepped) where
  module _ (class id : ℤ) (b : Bool) (q : b ≡ gives_row class id s) (rest : List Placed) where
    pub having-hit : b ≡ true → s.line ≡ next_row class id (row_at n line s ++ rest)
    unfolding row_at gives_row next_row is_row_like
    having-hit h = go (is_row s.found) (sym q ∙ h)
      where
        go : (f : Bool) → f && is_row_of s.cells class id 0 ≡ true → s.line ≡ next_row class id (cond f (record { line = s.line; cells = s.cells } ∷ []) [] ++ rest)
        go true e = rw e
        go false e = absurd (true≢false (sym e))

    pub having-miss : b ≡ false → next_row class id rest ≡ next_row class id (row_at n line s ++ rest)
    unfolding row_at gives_row next_row is_row_like
    having-miss h = go (is_row s.found) (sym q ∙ h)
      where
        go : (f : Bool) → f && is_row_of s.cells class id 0 ≡ false → next_row class id rest ≡ next_row class id (cond f (record { line = s.line; cells = s.cells } ∷ []) [] ++ rest)
        go true e = rw e
        go false e = refl

-- ---- no row at all
pub no-next : (class id : ℤ) → next_row class id [] ≡ 0
unfolding next_row
no-next class id = refl
