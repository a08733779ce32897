-- `sections::minor_row` meets its contract. Assumes nothing.
use mathlib.Core.Path.{◌∙◌}
use Rattle.sections.specs.Version.{minor_row}
use Rattle.places.proofs.Answers.{told}
use Rattle.sections.proofs.minor_row.Goals as goal

pub returns-in-Some : goal.returns-in-Some
unfolding minor_row
returns-in-Some c = told (minor_row _) (c.went.ensures ∙ rw c.edition_of.ensures) c.in-Some.is

pub returns-in-None : goal.returns-in-None
unfolding minor_row
returns-in-None c = told (minor_row _) c.refused.ensures c.in-None.is
