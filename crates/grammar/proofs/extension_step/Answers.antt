-- `grammar::extension_step` meets its contract. Assumes nothing.
use mathlib.Core.Path.{◌∙◌}
use Rattle.grammar.proofs.Answers.{extension-gave, extension-bad}
use Rattle.signed.proofs.Machine.{rd-at}
use Rattle.grammar.proofs.extension_step.Goals as goal

pub returns : goal.returns
returns c =
    c.gave_four.ensures
    ∙ extension-gave _ _ _ _ c.read_extension.ensures _ _ c.in-Some.is _ (c.moved-next.ensures ∙ rw c.listed_of.ensures) _ _ (rd-at _ c.with_sign-kind.type_inv ∙ c.with_sign-kind.ensures) (rd-at _ c.with_sign-which.type_inv ∙ c.with_sign-which.ensures)

pub returns-in_default : goal.returns-in_default
returns-in_default c = c.refused.ensures ∙ extension-bad _ _ _ _ c.read_extension.ensures c.in_default.is
