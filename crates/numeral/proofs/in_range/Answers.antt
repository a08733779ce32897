-- `numeral::in_range` meets its contract. Assumes nothing.
use Rattle.std.proofs.Common.{◌∙◌}
use borrow.Author.Tests.{lt-leb}
use Rattle.numeral.proofs.Integer.{range-low, range-test}
use Rattle.numeral.proofs.in_range.Goals.{then-low-n, else-low-n}
use Rattle.numeral.proofs.in_range.Goals as goal

pub returns : goal.returns
returns c =
    elim c.if-low-n.branch [
      | then-low-n w ↦ c.then_some.ensures ∙ rw w.then_some-is (range-test _ _ _ w.if-low-n.true)
      | else-low-n w ↦ c.then_some.ensures ∙ rw (w.then_some-is, lt-leb _ _ w.if-low-n.false) (range-low _ _ _ w.if-low-n.false)
    ]
