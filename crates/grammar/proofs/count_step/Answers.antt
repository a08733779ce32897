-- `grammar::count_step` meets its contract. Assumes nothing.
use mathlib.Core.Path.{◌∙◌}
use Rattle.grammar.specs.Steps.{num_samples_word}
use Rattle.grammar.proofs.Answers.{count_small, count-gave, count-bad}
use Rattle.signed.proofs.Machine.{rd-at, rd-is}
use Rattle.grammar.proofs.count_step.Goals as goal

pub counted-requires : goal.counted-requires
unfolding num_samples_word
counted-requires c = let i = c.before.before.before in
    count_small i.args.st i.args.id i.args.n _ _ i.read_word_number.ensures _ i.in-Some.is

pub returns-in-Some : goal.returns-in-Some
unfolding num_samples_word
returns-in-Some c = let b = c.before.before in
    let a = b.before in
    let i = a.before.before in
    c.gave_four.ensures ∙ count-gave _ _ _ _ _ i.read_word_number.ensures _ i.in-Some.is _ c.counted.ensures _ _ _ (rd-is i.ranges.id) (rd-at _ b.with_sign-size.type_inv ∙ b.with_sign-size.ensures) (rd-at _ a.with_sign-place.type_inv ∙ a.with_sign-place.ensures)

pub returns-in-None : goal.returns-in-None
unfolding num_samples_word
returns-in-None c = c.refused.ensures ∙ count-bad _ _ _ _ _ c.read_word_number.ensures c.before.in-None.is
