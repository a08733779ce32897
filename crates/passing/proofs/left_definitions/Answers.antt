-- `passing::left_definitions` meets its contract. Assumes nothing.
use Rattle.passing.proofs.Left.{left_not, left-if-met}
use Rattle.passing.proofs.left_definitions.Goals as goal

pub returns-then-section_in-eq2 : goal.returns-then-section_in-eq2
returns-then-section_in-eq2 c = left_not _ _ _ c.section_in.ensures c.if-section_in-eq2.true

pub returns : goal.returns
returns c = left-if-met _ _ _ c.section_in.ensures c.if-section_in-eq2.false
