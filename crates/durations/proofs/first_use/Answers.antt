-- `durations::first_use` meets its contract. Assumes nothing.
use Rattle.std.proofs.Common.{arith, sym, ◌∙◌}
use Rattle.tables.proofs.Found.{such-start, such-here, such-further, such-none}
use Rattle.durations.specs.Durations.{first_use}
use Rattle.durations.proofs.first_use.Goals as goal

pub loop-j-init : goal.loop-j-init
unfolding first_use
loop-j-init c = such-start _ _

pub returns-then-is_alike : goal.returns-then-is_alike
returns-then-is_alike c = such-here _ _ _ c.loop-j-test.true (sym c.is_alike.ensures ∙ c.if-is_alike.true) ∙ c.loop-j.invariant

pub loop-j-preserved : goal.loop-j-preserved
loop-j-preserved c = such-further _ _ _ c.loop-j-test.true (sym c.is_alike.ensures ∙ c.if-is_alike.false) ∙ c.loop-j.invariant

pub returns : goal.returns
returns c = such-none _ _ _ (omega arith) c.loop-j-test.false ∙ c.loop-j.invariant
