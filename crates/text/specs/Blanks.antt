-- The blanks in front of a text, and the place behind them.
use Rattle.std.specs.Prelude.{ℕ, suc, ◌+◌, cond, List, [], ◌∷◌, drop}
use Rattle.text.specs.Marks.{is_blank}

-- how many blanks stand in front
unfoldable pub blank_len : List ℕ → ℕ
blank_len [] = 0
blank_len (c ∷ s) = cond (is_blank c) (suc (blank_len s)) 0

-- the first place from `at` on that is not blank
unfoldable pub skipped : List ℕ → ℕ → ℕ
skipped line at = at + blank_len (drop at line)
