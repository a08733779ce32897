-- `sections::version_row` meets its contract. Assumes nothing.
use Rattle.sections.specs.Version.{version_row}
use Rattle.sections.proofs.version_row.Goals as goal

pub returns-in-Some : goal.returns-in-Some
unfolding version_row
returns-in-Some c = rw c.before.in-Some.is c.went.ensures

pub returns-in-None : goal.returns-in-None
unfolding version_row
returns-in-None c = rw c.before.in-None.is c.refused.ensures
