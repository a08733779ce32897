-- What is noted of the IDs of each class, on the way through the rows: the greatest, while they ascend. And the number that an ID is kept by.
use Rattle.std.specs.Prelude.{ℕ, ◌%◌, Bool, true, false, cond, ◌&&◌, List, [], ◌∷◌, ltb, leb, ℤ, pos, nat_abs, length, get_or, set}
use Rattle.std.specs.Int.Signed.{lt_z}
use Rattle.signed.specs.Signed.{same_z, largest}
use Rattle.sets.specs.Sets.{mixed}

-- ---- Where it is noted of a class, of 13 places
unfoldable pub place_of : ℤ → ℕ
place_of class = nat_abs class % 13

-- ---- What is noted behind an ID: the ID, if it is above the greatest before it. An ID that is not ends it: the largest number is noted, which none is above
unfoldable pub note_after : ℤ → ℤ → ℤ
note_after greatest id = cond (same_z greatest (pos largest)) greatest (cond (lt_z greatest id) id (pos largest))

unfoldable pub noted : List ℤ → ℤ → ℤ → List ℤ
noted most class id = set most (place_of class) (note_after (get_or most (place_of class) (pos 0)) id)

-- ---- A class is open where it is not noted that its IDs ascend
unfoldable pub is_open : List ℤ → ℤ → Bool
is_open most class = cond (ltb (place_of class) (length most)) (same_z (get_or most (place_of class) (pos 0)) (pos largest)) true

-- none is, where each of the 13 places is lent and none has the largest number
unfoldable pub none_largest : List ℤ → Bool
none_largest [] = true
none_largest (z ∷ zs) = cond (same_z z (pos largest)) false (none_largest zs)

unfoldable pub all_ascend : List ℤ → Bool
all_ascend most = leb 13 (length most) && none_largest most

-- ---- The number that an ID of a class is kept by
unfoldable pub key_of : ℤ → ℤ → ℕ
key_of class id = mixed (mixed (nat_abs id) (nat_abs class)) 0
