-- Signed numbers by example. Assumes nothing.
use Rattle.std.proofs.Common.{None, Some}
use mathlib.Core.Path.{◌≡◌, refl}
use mathlib.Core.Bool.{true, false}
use lib.IntN.{pos, negsuc}
use Rattle.signed.specs.Signed.{same_z, largest, signed_of, within}

-- -5 is the sign `true` before 5
minus-five : signed_of true 5 ≡ negsuc 4
unfolding signed_of
minus-five = refl

-- 0 has one form
minus-zero : signed_of true 0 ≡ signed_of false 0
unfolding signed_of
minus-zero = refl

apart : same_z (pos 1) (negsuc 0) ≡ false
unfolding same_z
apart = refl

-- a size that is asked for is allowed
at-the-end : within 100 (negsuc 99) ≡ Some (negsuc 99)
unfolding within
at-the-end = refl

past_the_end : within 100 (negsuc 100) ≡ None
unfolding within
past_the_end = refl

-- -2^63 is an i64 with no opposite, and is beyond every size
lowest : within 18446744073709551615 (negsuc largest) ≡ None
unfolding within
lowest = refl
