-- A text laid over a lent output from a place on: what does not fit is dropped, and counting goes on. And what is lent, cleared.
use Rattle.std.specs.Prelude.{ℕ, suc, ◌+◌, ◌-◌, ◌≤◌, min, List, [], ◌∷◌, ◌++◌, ◌≡◌, length, take, set, replicate}

-- `set` past the end changes nothing
unfoldable pub over : List ℕ → ℕ → List ℕ → List ℕ
over l at [] = l
over l at (b ∷ t) = over (set l at b) (suc at) t

-- 2^64 - 1, where counting stops: no output is longer
abbrev pub farthest : ℕ
farthest = 18446744073709551615

-- t was laid over l from `at` on, which made it l'; r is the place behind t
pub record Put (l : List ℕ) (at : ℕ) (t : List ℕ) (r : ℕ) (l' : List ℕ) : Type 0 where
  pub place : r ≡ min (at + length t) farthest
  pub text : l' ≡ over l at t
  pub room : length l ≤ farthest

-- a lent list with z from a place on
unfoldable pub cleared_from : {A : Type 0} → A → ℕ → List A → List A
cleared_from z from l = take from l ++ replicate (length l - from) z
