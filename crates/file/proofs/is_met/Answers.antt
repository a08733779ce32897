-- `file::is_met` meets its contract. Assumes nothing.
use borrow.Author.Tests.{ne_eqb}
use mathlib.Core.Path.{◌∙◌}
use Rattle.file.proofs.Marking.{noted-before, not_noted}
use Rattle.file.proofs.is_met.Goals as goal

pub returns-else-noted-eq0 : goal.returns-else-noted-eq0
returns-else-noted-eq0 c = ne_eqb _ 0 c.if-noted-eq0.false ∙ noted-before _ _ _ c.if-noted-eq0.false

pub returns-then-noted-eq0 : goal.returns-then-noted-eq0
returns-then-noted-eq0 c = not_noted _ _ _ c.if-noted-eq0.true _ c.section_in.ensures
