-- `stored::ends_shape` meets its contract. Assumes nothing.
use mathlib.Core.Path.{sym, ap, ◌∙◌}
use Rattle.stored.specs.Shapes.{ends_shape}
use Rattle.stored.proofs.ends_shape.Goals as goal

pub returns-in-Blank : goal.returns-in-Blank
unfolding ends_shape
returns-in-Blank c = sym (ap ends_shape (sym c.mark_of.ensures ∙ c.in-Blank.is))

pub returns-in-Comment : goal.returns-in-Comment
unfolding ends_shape
returns-in-Comment c = sym (ap ends_shape (sym c.mark_of.ensures ∙ c.in-Comment.is))

pub returns-in-Section : goal.returns-in-Section
unfolding ends_shape
returns-in-Section c = sym (ap ends_shape (sym c.mark_of.ensures ∙ c.in-Section.is))

pub returns-in-Plain : goal.returns-in-Plain
unfolding ends_shape
returns-in-Plain c = sym (ap ends_shape (sym c.mark_of.ensures ∙ c.in-Plain.is))
