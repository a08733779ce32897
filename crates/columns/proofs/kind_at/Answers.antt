-- `columns::kind_at` meets its contract: a digit of the packed number, and past it none. Assumes nothing.
use mathlib.Core.Path.{◌∙◌}
use native.Mathlib.Omega.{arith}
use Rattle.columns.proofs.Columns.{kind-past, kind-found}
use Rattle.columns.proofs.kind_at.Goals as goal

pub returns-then-j-gt8 : goal.returns-then-j-gt8
returns-then-j-gt8 c = kind-past _ _ _ c.if-j-gt8.true

pub returns : goal.returns
returns c = c.kind_of.ensures ∙ kind-found _ _ _ c.kinds_of.ensures (omega arith)
