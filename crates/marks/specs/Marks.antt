-- A set of small numbers in bytes: number j is the bit j % 8 of byte j / 8.
use Rattle.std.specs.Prelude.{ℕ, zero, suc, ◌+◌, ◌/◌, ◌%◌, ◌^◌, Bool, cond, List, eqb, get_or, set}

-- a bit of a byte, the lowest first
unfoldable pub bit_of : ℕ → ℕ → ℕ
bit_of b zero = b % 2
bit_of b (suc i) = bit_of (b / 2) i

-- the byte of a number; 0 where there is none
abbrev pub byte_of : List ℕ → ℕ → ℕ
byte_of marks j = get_or marks (j / 8) 0

unfoldable pub is_marked : List ℕ → ℕ → Bool
is_marked marks j = eqb (bit_of (byte_of marks j) (j % 8)) 1

-- ---- A number is put into the set by its bit
unfoldable pub marked : List ℕ → ℕ → List ℕ
marked marks j = cond (is_marked marks j) marks (set marks (j / 8) (byte_of marks j + 2 ^ (j % 8)))
