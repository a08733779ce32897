-- `section_text::put_version` meets its contract. Assumes nothing.
use Rattle.section_text.specs.Sections.{version_text}
use Rattle.section_text.proofs.put_version.Goals as goal

pub returns-in-V13 : goal.returns-in-V13
unfolding version_text
returns-in-V13 c = rw c.in-V13.is c.put_bytes.ensures

pub returns-in-V14 : goal.returns-in-V14
unfolding version_text
returns-in-V14 c = rw c.in-V14.is c.put_bytes-in-V14.ensures
