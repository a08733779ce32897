-- A text of short lines: pieces of at most 1,024 bytes, each with an LF behind it. Assumes nothing.
use Prim.Native.Nat.{ℕ, ◌≤◌}
use mathlib.Core.List.{List, [], ◌∷◌, ◌++◌, append_assoc}
use lib.ListN.{length}

pub data Short : List ℕ → Type 0 where
  short_none : Short []
  short-line : (s : List ℕ) {t : List ℕ} → length s ≤ 1024 → Short t → Short (s ++ (10 ∷ t))

pub short-append : {s t : List ℕ} → Short s → Short t → Short (s ++ t)
short-append short_none q = q
short-append (short-line s h p) q = rw append_assoc (short-line s h (short-append p q))
