-- `events::shape_fits` meets its contract: what is marked is known, what fits is marked. Assumes nothing.
use Rattle.std.proofs.Common.{ap, sym, subst, arith, ◌∙◌}
use Rattle.std.proofs.lemmas.Grind.{common_steps}
use Rattle.events.specs.Inside.{samples_fit, asked_number, Known}
use Rattle.events.proofs.Marking.{known-marked, known_more}
use Rattle.events.proofs.shape_fits.Goals as goal

pub returns-then-is_marked-clause-value : goal.returns-then-is_marked-clause-value
unfolding asked_number
returns-then-is_marked-clause-value c = known-marked _ _ _ _ c.requires _ _ c.if-k-first.false _ (grind (arith, common_steps)) (sym c.is_marked.ensures ∙ c.if-is_marked.true)

pub returns-then-samples_fit-clause-known : goal.returns-then-samples_fit-clause-known
unfolding asked_number
returns-then-samples_fit-clause-known c =
    let fit = sym (c.samples_fit-2.ensures ∙ ap (samples_fit _) c.samples_at-part.ensures) ∙ c.if-samples_fit.true in
    subst (Known _ _ _) (sym c.mark.ensures) (known_more _ _ _ _ c.requires _ _ c.if-k-first.false _ (grind (arith, common_steps)) fit)
