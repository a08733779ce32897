-- `sections::version_step` meets its contract: each row by its own case. Assumes nothing.
use mathlib.Core.Path.{◌∙◌}
use Rattle.sections.specs.Version.{version_step, major_word, minor_word, revision_word}
use Rattle.places.proofs.Answers.{told}
use Rattle.sections.proofs.version_step.Goals as goal

pub returns-in-Major : goal.returns-in-Major
unfolding version_step major_word minor_word revision_word
returns-in-Major c = told (version_step _ _) (c.version_row.ensures ∙ rw (c.moved.ensures, c.read_word_number.ensures)) c.before.before.before.before.in-Major.is

pub returns-in-Minor : goal.returns-in-Minor
unfolding version_step major_word minor_word revision_word
returns-in-Minor c = told (version_step _ _) (c.minor_row.ensures ∙ rw c.read_word_number-in-Minor.ensures) c.before.before.before.in-Minor.is

pub returns-in-Revision : goal.returns-in-Revision
unfolding version_step major_word minor_word revision_word
returns-in-Revision c = told (version_step _ _) (c.version_row-in-Revision.ensures ∙ rw (c.moved-in-Revision.ensures, c.read_word_number-in-Revision.ensures)) c.before.before.before.before.in-Revision.is
