-- `numeral::is_minus` meets its contract: the first byte, if there is one. Assumes nothing.
use Rattle.std.proofs.Common.{◌∙◌, sym, ap, arith}
use borrow.Author.Tests.{ltb-false}
use lib.Dec.{eqb}
use Rattle.numeral.proofs.Digits.{minus-none, minus-some}
use Rattle.numeral.proofs.is_minus.Goals as goal

pub returns-in-Some : goal.returns-in-Some
returns-in-Some c =
    let h = c.in-Some.ensures.item.3 in
    ap (λ x. eqb x 45) (h.1 0) ∙ minus-some _ h.0

pub returns-in-None : goal.returns-in-None
returns-in-None c = minus-none _ (omega (arith, ltb-false _ _ (sym c.in-None.ensures.item.0)))
