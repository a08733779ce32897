-- What the inner functions answer. Nothing here needs to be believed: laws lead from these to the definitions of the other file.
use Rattle.std.specs.Prelude.{ℕ, zero, suc, ◌-◌, ◌≤◌, ◌<◌, List, ◌∷◌, ◌≡◌, ℤ, pos, ◌-ℤ◌, length, drop, get_or}
use Rattle.shape_text.specs.Written.{Run, differences_from, runs_of}

-- the sample before the one at i; 0 before the first
abbrev pub before : List ℤ → ℕ → ℤ
before zs zero = pos 0
before zs (suc i) = get_or zs i (pos 0)

-- how far the sample at i is from the one before it
abbrev pub step_at : List ℤ → ℕ → ℤ
step_at zs i = get_or zs i (pos 0) -ℤ before zs i

-- the runs of the differences from the sample at i on
abbrev pub runs_from : List ℤ → ℕ → List Run
runs_from zs i = runs_of (differences_from (before zs i) (drop i zs))

-- the longest run that starts at i ends before `end`
pub record RunAt (zs : List ℤ) (i end : ℕ) : Type 0 where
  pub further : i < end
  pub inside : end ≤ length zs
  pub runs : runs_from zs i ≡ record { value = step_at zs i; more = end - i - 1 } ∷ runs_from zs end
