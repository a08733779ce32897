-- The lines of a text.
use Rattle.std.specs.Prelude.{ℕ, suc, ◌+◌, Bool, false, cond, ◌&&◌, List, [], ◌∷◌, eqb, take, drop}
use Rattle.text.specs.declared.Line.{Line}

-- ---- "LF ends a line; a CR just before it belongs to the end." LF is 10, CR is 13. What follows the last LF is a line if it is not empty.
unfoldable pub starts_lf : List ℕ → Bool
starts_lf [] = false
starts_lf (c ∷ s) = eqb c 10

-- a byte in front of the first of some lists
unfoldable pub onto : ℕ → List (List ℕ) → List (List ℕ)
onto c [] = (c ∷ []) ∷ []
onto c (l ∷ ls) = (c ∷ l) ∷ ls

unfoldable pub lines_of : List ℕ → List (List ℕ)
lines_of [] = []
lines_of (c ∷ s) = cond (eqb c 10) ([] ∷ lines_of s) (cond (eqb c 13 && starts_lf s) (lines_of s) (onto c (lines_of s)))

-- the same lines with their ends
unfoldable pub whole_lines_of : List ℕ → List (List ℕ)
whole_lines_of [] = []
whole_lines_of (c ∷ s) = cond (eqb c 10) ((c ∷ []) ∷ whole_lines_of s) (onto c (whole_lines_of s))

-- ---- The first line's place: how long it is without its end, and with it
unfoldable pub bare_len : List ℕ → ℕ
bare_len [] = 0
bare_len (c ∷ s) = cond (eqb c 10) 0 (cond (eqb c 13 && starts_lf s) 0 (suc (bare_len s)))

unfoldable pub pass_len : List ℕ → ℕ
pass_len [] = 0
pass_len (c ∷ s) = cond (eqb c 10) 1 (suc (pass_len s))

-- a line without its end
unfoldable pub bare_of : List ℕ → List ℕ
bare_of l = take (bare_len l) l

-- the line that starts at a place: where it stops, and where the next one starts
unfoldable pub line_at : List ℕ → ℕ → Line
line_at text at = record { stop = at + bare_len (drop at text); next = at + pass_len (drop at text) }
