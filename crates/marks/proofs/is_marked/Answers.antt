-- `marks::is_marked` meets its contract: the bit of a number, or no place for it. Assumes nothing.
use Rattle.std.proofs.Common.{◌∙◌}
use borrow.Author.Tests.{le-ltb}
use Rattle.marks.specs.Marks.{is_marked}
use Rattle.marks.proofs.Bits.{marked-out, bit-test}
use Rattle.marks.proofs.is_marked.Goals as goal

pub returns-then-i-marks : goal.returns-then-i-marks
unfolding is_marked
returns-then-i-marks c = bit-test _ _ _ c.worth_of.ensures

pub returns-else-i-marks : goal.returns-else-i-marks
returns-else-i-marks c = le-ltb _ _ c.if-i-marks.false ∙ (marked-out _ _ c.if-i-marks.false).0
