-- `shape::add_value` meets its contract: the value is rounded and added. Assumes nothing.
use Rattle.std.proofs.Common.{◌^◌, ◌∙◌, sym, ◌+ℤ◌, arith}
use mathlib.Core.Path.{ap₂}
use Rattle.signed.specs.Signed.{within}
use Rattle.signed.proofs.Machine.{rd-is, rd-at}
use Rattle.shape.proofs.Adding.{add_is, add_none}
use Rattle.shape.proofs.add_value.Goals as goal

pub returns-in_err-rounded : goal.returns-in_err-rounded
returns-in_err-rounded c = c.from_residual.ensures ∙ add_none _ _ (sym c.rounded.ensures ∙ c.in_err-rounded.was)

pub returns : goal.returns
returns c =
    c.plus.ensures
    ∙ ap₂ (λ x y. within (10 ^ 17) (x +ℤ y)) (rd-is c.ranges.sum) (rd-at _ (omega arith))
    ∙ add_is _ _ _ (sym c.rounded.ensures ∙ c.in_ok-rounded.was)
