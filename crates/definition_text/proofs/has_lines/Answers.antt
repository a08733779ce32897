-- `definition_text::has_lines` meets its contract. Assumes nothing.
use Rattle.definition_text.proofs.has_lines.Goals as goal

pub returns-in-V13 : goal.returns-in-V13
returns-in-V13 c = rw c.in-V13.is c.has_own.ensures
