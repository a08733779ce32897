-- `stored::is_wanted` meets its contract. Assumes nothing.
use mathlib.Core.Path.{ap, ◌∙◌}
use lib.IntN.{ℤ}
use Rattle.signed.proofs.Machine.{rd-at, rd-is}
use Rattle.stored.specs.Shapes.{is_shape}
use Rattle.stored.proofs.Seeking.{wanted-any, wanted-one}
use Rattle.stored.proofs.is_wanted.Goals as goal

pub returns-then-any : goal.returns-then-any
returns-then-any c = c.is_shape.ensures ∙ ap (λ (z : ℤ). is_shape z c.args.did) (rd-at _ c.own-1.given) ∙ wanted-any _ _ _ c.if-any.true

pub returns : goal.returns
returns c = c.is_shape-2.ensures ∙ ap (λ (z : ℤ). is_shape z c.args.did) (rd-is c.ranges.id) ∙ wanted-one _ _ _ c.if-any.false
