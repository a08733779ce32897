-- `shape::clean_item` meets its contract. By cases on the mark. Assumes nothing.
use mathlib.Core.Logic.{⊎_elim}
use mathlib.Core.Path.{sym, ◌∙◌}
use Rattle.text.specs.declared.Mark.TheVariants.{Blank, Comment, Section}
use Rattle.shape.specs.Stored.{mark_item}
use Rattle.shape.proofs.Items.{item-marked, item-plain}
use Rattle.shape.proofs.clean_item.Goals as goal

pub returns-in-Comment : goal.returns-in-Comment
unfolding mark_item
returns-in-Comment c = item-marked _ c.requires Comment (sym c.mark_of.ensures ∙ c.in-Comment.is)

pub returns-in-Plain : goal.returns-in-Plain
returns-in-Plain c = c.plain_item.ensures ∙ sym (item-plain _ c.requires (sym c.mark_of.ensures ∙ c.in-Plain.is))

pub returns-in-Blank : goal.returns-in-Blank
unfolding mark_item
returns-in-Blank c =
    ⊎_elim (λ e. item-marked _ c.requires Blank (sym c.mark_of.ensures ∙ e)) (λ e. item-marked _ c.requires Section (sym c.mark_of.ensures ∙ e)) c.in-Blank.is
