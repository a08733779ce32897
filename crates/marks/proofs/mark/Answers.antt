-- `marks::mark` meets its contract: the bit of a number is put in, unless it has no place. Assumes nothing.
use Rattle.marks.proofs.Bits.{marked-out, worth-put}
use Rattle.marks.proofs.mark.Goals as goal

pub returns-then-i-marks : goal.returns-then-i-marks
returns-then-i-marks c = worth-put _ _ _ c.worth_of.ensures

pub returns-else-i-marks : goal.returns-else-i-marks
returns-else-i-marks c = (marked-out _ _ c.if-i-marks.false).1
