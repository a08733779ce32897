-- `sections::enter` meets its contract. Assumes nothing.
use mathlib.Core.Path.{sym, ◌∙◌}
use Rattle.sections.proofs.Sections.{section-known}
use Rattle.sections.proofs.Answers.{enters, enters-not, may-had}
use Rattle.sections.proofs.enter.Goals as goal

pub begin-requires : goal.begin-requires
begin-requires c = let m = c.before.before in section-known _ _ (may-had _ _ (sym m.may_enter.ensures ∙ c.if-may_enter.true))

pub returns-then-may_enter : goal.returns-then-may_enter
returns-then-may_enter c = let p = c.before in
    c.begin.ensures ∙ rw p.place_in.ensures (enters _ _ (sym p.may_enter.ensures ∙ p.if-may_enter.true))

pub returns : goal.returns
returns c = c.refused.ensures ∙ enters-not _ _ (sym c.may_enter.ensures ∙ c.if-may_enter.false)
