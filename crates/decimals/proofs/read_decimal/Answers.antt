-- `decimals::read_decimal` meets its contract: the sign is cut off, and the rest is read. Assumes nothing.
use Rattle.std.proofs.Common.{Option}
use Rattle.numeral.specs.declared.Decimal.{Decimal}
use Prim.Native.Nat.{ℕ, ◌-◌, ◌≤◌}
use mathlib.Core.List.{List}
use mathlib.Core.Path.{◌≡◌, ◌∙◌}
use native.Mathlib.Omega.{arith}
use lib.ListN.{length, take, drop}
use Rattle.decimals.specs.Decimal.{decimal_of}
use Rattle.decimals.specs.Inside.{sign_of, body_of}
use Rattle.decimals.specs.declared.Sign.{Sign}
use Rattle.numeral.proofs.Parts.{tail-part}
use Rattle.decimals.proofs.Parts.{sign_fits}
use Rattle.decimals.proofs.Bodies.{decimal-long, decimal-is}
use Rattle.decimals.proofs.read_decimal.Goals as goal

closed : (s : List ℕ) (g : Sign) (r : (Option Decimal)) → length s ≤ 32 → g ≡ sign_of s → r ≡ body_of g.minus (take (length s - g.len) (drop g.len s))
    → r ≡ decimal_of s
unfolding sign_of
closed s g r h e p = p ∙ rw (tail-part s g.len, e) (decimal-is s h)

pub returns-then-field-gt-LONGEST : goal.returns-then-field-gt-LONGEST
returns-then-field-gt-LONGEST c = decimal-long _ c.if-field-gt-LONGEST.true

pub slice_bounds-body-count : goal.slice_bounds-body-count
slice_bounds-body-count c = sign_fits c.args.field.now _ c.sign_of-sign.ensures

pub slice_bounds-body-start : goal.slice_bounds-body-start
slice_bounds-body-start c = sign_fits c.args.field.now _ c.sign_of-sign.ensures

pub returns : goal.returns
returns c = closed _ _ _ (omega arith) c.sign_of-sign.ensures c.body.ensures
