-- `file::lay_found` meets its contract. Assumes nothing.
use Rattle.file.proofs.Laying.{laid_one, laid-nothing}
use Rattle.file.proofs.lay_found.Goals as goal

pub returns-then-count-eq1 : goal.returns-then-count-eq1
returns-then-count-eq1 c = let r = c.before.before.before.before.before in laid_one _ _ _ r.row_count-count.ensures _ c.if-count-eq1.true _ c.lay_row.ensures

pub returns-else-count-eq1 : goal.returns-else-count-eq1
returns-else-count-eq1 c = laid-nothing _ _ _ c.row_count-count.ensures _ c.if-count-eq1.false
