-- A value added to the sum so far, by what it is rounded to. Assumes nothing.
use Rattle.std.proofs.Common.{None, Some}
use Prim.Native.Nat.{◌^◌}
use mathlib.Core.Path.{◌≡◌}
use lib.IntN.{ℤ, ◌+ℤ◌}
use Rattle.signed.specs.Signed.{within}
use Rattle.numeral.specs.Worth.{rounded_of}
use Rattle.numeral.specs.declared.Decimal.{Decimal}
use Rattle.shape.specs.Samples.{sum_to, add_of}

pub add_is : (s : ℤ) (d : Decimal) (v : ℤ) → rounded_of d ≡ Some v → within (10 ^ 17) (s +ℤ v) ≡ add_of s d
unfolding add_of sum_to
add_is s d v e = rw e

pub add_none : (s : ℤ) (d : Decimal) → rounded_of d ≡ None → None ≡ add_of s d
unfolding add_of sum_to
add_none s d e = rw e
