-- `grammar::head_step` meets its contract. Assumes nothing.
use mathlib.Core.Path.{◌∙◌}
use Rattle.grammar.specs.Steps.{shape_id_word}
use Rattle.grammar.proofs.Answers.{head-went, head-bad}
use Rattle.signed.proofs.Machine.{rd-at}
use Rattle.grammar.proofs.head_step.Goals as goal

pub returns-in-Some : goal.returns-in-Some
unfolding shape_id_word
returns-in-Some c = let w = c.before.before in
    let i = w.before.before in
    c.went.ensures ∙ head-went _ _ _ _ i.read_word_number.ensures _ i.in-Some.is _ (rd-at _ w.with_sign-number.type_inv ∙ w.with_sign-number.ensures) _ c.moved.ensures

pub returns-in-None : goal.returns-in-None
unfolding shape_id_word
returns-in-None c = c.refused.ensures ∙ head-bad _ _ _ _ c.read_word_number.ensures c.before.in-None.is
