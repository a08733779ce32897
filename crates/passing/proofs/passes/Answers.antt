-- `passing::passes` meets its contract. Assumes nothing.
use mathlib.Core.Path.{sym, ap, ◌∙◌}
use Rattle.passing.specs.Passing.{passes_of}
use Rattle.passing.proofs.passes.Goals as goal

pub returns-in-Blank : goal.returns-in-Blank
returns-in-Blank c = sym (ap (passes_of _) (sym c.mark_of.ensures ∙ c.in-Blank.is))

pub returns-in-Comment : goal.returns-in-Comment
returns-in-Comment c = sym (ap (passes_of _) (sym c.mark_of.ensures ∙ c.in-Comment.is))

pub returns-in-Section : goal.returns-in-Section
returns-in-Section c = sym (ap (passes_of _) (sym c.mark_of.ensures ∙ c.in-Section.is))

pub returns-in-Plain : goal.returns-in-Plain
returns-in-Plain c = let m = c.before in c.passes_at.ensures ∙ sym (ap (passes_of _) (sym m.mark_of.ensures ∙ m.in-Plain.is))
