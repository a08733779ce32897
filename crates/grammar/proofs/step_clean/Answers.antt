-- `grammar::step_clean` meets its contract: each mark by its own case. Assumes nothing.
use mathlib.Core.Path.{sym, ◌∙◌}
use Rattle.grammar.specs.Steps.{marked_step}
use Rattle.places.proofs.Answers.{told}
use Rattle.grammar.proofs.Answers.{line_marked}
use Rattle.grammar.proofs.step_clean.Goals as goal

pub plain_step-requires : goal.plain_step-requires
plain_step-requires c = let m = c.before.before in
    record { line_value = m.requires; line_value_2 = sym m.mark_of.ensures ∙ c.in-Plain.is }

pub returns-in-Comment : goal.returns-in-Comment
unfolding marked_step
returns-in-Comment c = let m = c.before.before.before in
    told (marked_step _ _ _) c.went.ensures (sym m.mark_of.ensures ∙ c.before.in-Comment.is) ∙ line_marked _ _ _ m.requires

pub returns-in-Blank : goal.returns-in-Blank
unfolding marked_step
returns-in-Blank c = let m = c.before.before.before in
    told (marked_step _ _ _) c.blank_step.ensures (sym m.mark_of.ensures ∙ c.before.in-Blank.is) ∙ line_marked _ _ _ m.requires

pub returns-in-Section : goal.returns-in-Section
unfolding marked_step
returns-in-Section c = let m = c.before.before.before in
    told (marked_step _ _ _) c.section_step.ensures (sym m.mark_of.ensures ∙ c.before.in-Section.is) ∙ line_marked _ _ _ m.requires

pub returns-in-Plain : goal.returns-in-Plain
unfolding marked_step
returns-in-Plain c = let m = c.before.before.before in
    told (marked_step _ _ _) c.plain_step.ensures (sym m.mark_of.ensures ∙ c.before.in-Plain.is) ∙ line_marked _ _ _ m.requires
