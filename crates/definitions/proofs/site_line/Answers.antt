-- `definitions::site_line` meets its contract: LINE first, then each mark by its own case. Assumes nothing.
use mathlib.Core.Path.{sym, ap, ◌∙◌}
use lib.ListN.{length}
use Rattle.text.specs.declared.Mark.TheVariants.{Blank, Comment, Section, Plain}
use Rattle.definitions.specs.Definitions.{site_mark}
use Rattle.definitions.proofs.Seeking.{site-broken, site-marked, site-empty, site-valued}
use Rattle.definitions.proofs.site_line.Goals as goal

pub returns-then-breaks_line : goal.returns-then-breaks_line
returns-then-breaks_line c = site-broken _ (sym c.breaks_line.ensures ∙ c.if-breaks_line.true)

pub returns-then-value-eq0 : goal.returns-then-value-eq0
returns-then-value-eq0 c = site-empty _ (sym (ap length c.value.ensures) ∙ c.if-value-eq0.true) ∙ site-marked _ (sym c.breaks_line.ensures ∙ c.if-breaks_line.false) Plain (sym c.mark_of.ensures ∙ c.in-Plain.is)

pub returns-in-Blank : goal.returns-in-Blank
unfolding site_mark
returns-in-Blank c = site-marked _ (sym c.breaks_line.ensures ∙ c.if-breaks_line.false) Blank (sym c.mark_of.ensures ∙ c.in-Blank.is)

pub returns-in-Comment : goal.returns-in-Comment
unfolding site_mark
returns-in-Comment c = site-marked _ (sym c.breaks_line.ensures ∙ c.if-breaks_line.false) Comment (sym c.mark_of.ensures ∙ c.in-Comment.is)

pub returns-in-Section : goal.returns-in-Section
unfolding site_mark
returns-in-Section c = site-marked _ (sym c.breaks_line.ensures ∙ c.if-breaks_line.false) Section (sym c.mark_of.ensures ∙ c.in-Section.is)

pub returns-else-value-eq0 : goal.returns-else-value-eq0
returns-else-value-eq0 c = site-valued _ (λ e. c.if-value-eq0.false (ap length c.value.ensures ∙ e)) ∙ site-marked _ (sym c.breaks_line.ensures ∙ c.if-breaks_line.false) Plain (sym c.mark_of.ensures ∙ c.in-Plain.is)
