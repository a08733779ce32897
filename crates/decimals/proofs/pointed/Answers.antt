-- `decimals::pointed` meets its contract: what is left without trailing zeros, with its exponent. Assumes nothing.
use Rattle.std.proofs.Common.{Option}
use Rattle.numeral.specs.declared.Decimal.{Decimal}
use Prim.Native.Nat.{ℕ, ◌+◌, ◌-◌, ◌≤◌}
use mathlib.Core.Bool.{Bool}
use mathlib.Core.Path.{◌≡◌}
use native.Mathlib.Omega.{arith}
use Rattle.decimals.specs.Decimal.{strip_from}
use Rattle.decimals.specs.Inside.{pair_of, pointed_of}
use Rattle.decimals.specs.declared.Stripped.{Stripped}
use Rattle.decimals.proofs.Zeros.{strip-le, strip-zeros}
use Rattle.decimals.proofs.pointed.Goals as goal

module _ (v : ℕ) (t : Stripped) (p : t ≡ strip_from v 0) where
  least : t.v ≤ v
  least = rw p (strip-le v 0)

  zeros : t.zeros ≤ v + 0
  zeros = rw p (strip-zeros v 0)

  made : (negative : Bool) (f : ℕ) (n : (Option Decimal)) → n ≡ pair_of negative t.v (200 + t.zeros - f) → n ≡ pointed_of negative v f
  unfolding pointed_of
  made negative f n q = rw p at q

pub overflow_add-t : goal.overflow_add-t
overflow_add-t c = let z = zeros _ _ c.strip_from-t.ensures in omega arith

pub pair-requires : goal.pair-requires
pair-requires c = let l = least _ _ c.strip_from-t.ensures in omega arith

pub returns : goal.returns
returns c = made _ _ c.strip_from-t.ensures _ _ _ c.pair.ensures
