-- `shape::spell` meets its contract: digits up to a point and behind it, or digits alone. Assumes nothing.
use mathlib.Core.Path.{sym, ◌∙◌}
use native.Mathlib.Omega.{arith}
use Rattle.shape.proofs.Spelling.{stands-within, spell-whole, spell-point}
use Rattle.shape.proofs.spell.Goals as goal

pub overflow_add-point : goal.overflow_add-point
overflow_add-point c =
    let w = stands-within _ _ _ (sym c.stands_at.ensures ∙ c.if-stands_at.true) in
    omega (arith, w)

pub returns-then-stands_at : goal.returns-then-stands_at
returns-then-stands_at c =
    spell-point _ _ _ c.gather-whole.ensures (sym c.stands_at.ensures ∙ c.if-stands_at.true) _ c.gather-v.ensures

pub returns : goal.returns
returns c = spell-whole _ _ _ c.gather-whole.ensures
