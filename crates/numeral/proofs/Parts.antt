-- A part of a text from a place on. Assumes nothing.
use Prim.Native.Nat.{ℕ, ◌-◌}
use mathlib.Core.List.{List}
use mathlib.Core.Path.{◌≡◌}
use native.Mathlib.Omega.{arith}
use lib.ListN.{length, take, drop, length-drop}
use lib.Seq.{take_all}

-- what `&s[a..]` is
pub tail-part : (s : List ℕ) (a : ℕ) → take (length s - a) (drop a s) ≡ drop a s
tail-part s a = take_all (length s - a) (drop a s) (rw length-drop (omega arith))
