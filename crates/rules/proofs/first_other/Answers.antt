use Rattle.std.proofs.Common.{sym, arith, ◌∙◌}
use Rattle.tables.proofs.Found.{such-start, such-here, such-further, such-none}
use Rattle.rules.proofs.first_other.Goals as goal

pub loop-k-init : goal.loop-k-init
loop-k-init c = such-start _ _

pub returns-then-breaks_other : goal.returns-then-breaks_other
returns-then-breaks_other c = such-here _ _ _ c.loop-k-test.true (sym c.breaks_other.ensures ∙ c.if-breaks_other.true) ∙ c.loop-k.invariant

pub loop-k-preserved : goal.loop-k-preserved
loop-k-preserved c = such-further _ _ _ c.loop-k-test.true (sym c.breaks_other.ensures ∙ c.if-breaks_other.false) ∙ c.loop-k.invariant

pub returns : goal.returns
returns c = such-none _ _ _ (omega arith) c.loop-k-test.false ∙ c.loop-k.invariant
