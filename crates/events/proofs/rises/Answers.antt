use Rattle.std.proofs.Common.{sym, arith, ◌∙◌}
use Rattle.signed.proofs.Machine.{rd-at}
use Rattle.events.proofs.Fitting.{rise-turn, rise-not, rise-end}
use Rattle.events.proofs.rises.Goals as goal

pub returns-then-not-follows : goal.returns-then-not-follows
returns-then-not-follows c = rise-not _ _ c.loop-z-test.true _ (rd-at _ (omega arith)) _ (sym c.follows.ensures ∙ c.if-not-follows.true) ∙ c.loop-z.invariant

pub loop-z-preserved : goal.loop-z-preserved
loop-z-preserved c = rise-turn _ _ c.loop-z-test.true _ (rd-at _ (omega arith)) _ (sym c.follows.ensures ∙ c.if-not-follows.false) ∙ c.loop-z.invariant

pub returns : goal.returns
returns c = rise-end _ _ c.loop-z-test.false _ ∙ c.loop-z.invariant
