use Rattle.std.proofs.Common.{sym, arith, ◌∙◌}
use Rattle.std.proofs.lemmas.Grind.{common_steps}
use Rattle.tables.proofs.Found.{such-start, such-here, such-further, such-none}
use Rattle.rules.specs.Rules.{is_broken, first_broken}
use Rattle.rules.proofs.first_broken.Goals as goal

pub returns-then-eq : goal.returns-then-eq
unfolding first_broken is_broken
returns-then-eq c = grind (arith, common_steps)

pub loop-k-init : goal.loop-k-init
unfolding first_broken
loop-k-init c = such-start _ _

pub returns-then-is_broken : goal.returns-then-is_broken
returns-then-is_broken c = such-here _ _ _ c.loop-k-test.true (sym c.is_broken.ensures ∙ c.if-is_broken.true) ∙ c.loop-k.invariant

pub loop-k-preserved : goal.loop-k-preserved
loop-k-preserved c = such-further _ _ _ c.loop-k-test.true (sym c.is_broken.ensures ∙ c.if-is_broken.false) ∙ c.loop-k.invariant

pub returns : goal.returns
returns c = such-none _ _ _ (omega arith) c.loop-k-test.false ∙ c.loop-k.invariant
