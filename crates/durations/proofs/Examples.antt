-- Worked examples of delay rows: the checker computes each. Assumes nothing.
use Prim.Native.Nat.{ℕ}
use mathlib.Core.List.{List, [], ◌∷◌, ◌++◌}
use mathlib.Core.Path.{◌≡◌, refl}
use lib.IntN.{ℤ, pos}
use Rattle.signed.specs.Signed.{same_z}
use Rattle.tables.specs.Tables.{first_such, number_at}
use Rattle.sayable.specs.Sayable.{nanos_at}
use Rattle.durations.specs.Durations.{is_alike, first_use, is_first, use_count, uses_in, delay_number, use_list, uses_list, stands_at}

-- a row of a kind, with its tenth number
abbrev lasting : ℕ → ℕ → List ℤ
lasting kind ns =
    pos kind ∷ pos 1 ∷ pos 0 ∷ pos 0 ∷ pos 0 ∷ pos 0 ∷ pos 0 ∷ pos 0 ∷ pos 0 ∷ pos ns ∷ pos 0 ∷ pos 0 ∷ []

-- blocks of 2 µs, 0, 5 µs, 2 µs and 5 µs, with a trap among them
unfoldable blocks : List ℤ
blocks = lasting 1 2000 ++ lasting 4 5000 ++ lasting 1 0 ++ lasting 1 5000 ++ lasting 1 2000 ++ lasting 1 5000

first-is-1 : delay_number blocks 6 0 ≡ 1
unfolding delay_number uses_in use_count is_first first_use is_alike first_such number_at nanos_at same_z blocks
first-is-1 = refl

none-is-0 : delay_number blocks 6 2 ≡ 0
unfolding delay_number uses_in use_count is_first first_use is_alike first_such number_at nanos_at same_z blocks
none-is-0 = refl

second-is-2 : delay_number blocks 6 3 ≡ 2
unfolding delay_number uses_in use_count is_first first_use is_alike first_such number_at nanos_at same_z blocks
second-is-2 = refl

again-is-2 : delay_number blocks 6 5 ≡ 2
unfolding delay_number uses_in use_count is_first first_use is_alike first_such number_at nanos_at same_z blocks
again-is-2 = refl

-- the list of their durations, and where one stands in it
listed : uses_list blocks 6 0 6 ≡ 2000 ∷ 5000 ∷ []
unfolding uses_list use_list is_first first_use is_alike first_such number_at nanos_at same_z blocks
listed = refl

stands-second : stands_at (2000 ∷ 5000 ∷ []) 5000 ≡ 1
unfolding stands_at
stands-second = refl

stands-nowhere : stands_at (2000 ∷ 5000 ∷ []) 3000 ≡ 2
unfolding stands_at
stands-nowhere = refl
