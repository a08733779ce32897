-- `expanding::line_holds` meets its contract: by cases on the mark. Assumes nothing.
use mathlib.Core.Path.{sym, ap, ◌∙◌}
use Rattle.expanding.specs.Inside.{mark_holds}
use Rattle.expanding.proofs.line_holds.Goals as goal

pub returns-in-Blank : goal.returns-in-Blank
returns-in-Blank c = ap mark_holds (sym c.in-Blank.is ∙ c.mark_of.ensures)

pub returns-in-Comment : goal.returns-in-Comment
returns-in-Comment c = ap mark_holds (sym c.in-Comment.is ∙ c.mark_of.ensures)

pub returns-in-Section : goal.returns-in-Section
returns-in-Section c = ap mark_holds (sym c.in-Section.is ∙ c.mark_of.ensures)

pub returns-in-Plain : goal.returns-in-Plain
returns-in-Plain c = ap mark_holds (sym c.in-Plain.is ∙ c.mark_of.ensures)
