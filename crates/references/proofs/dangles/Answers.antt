use Rattle.std.proofs.Common.{sym, arith, ◌∙◌}
use Rattle.tables.proofs.Found.{such-here, such-further, such-none}
use Rattle.references.proofs.Classes.{numbers-behind, dangles-yes, dangles-no}
use Rattle.references.proofs.dangles.Goals as goal

pub loop-c-init : goal.loop-c-init
loop-c-init c = numbers-behind _ _ _ _

pub returns-then-number_misses : goal.returns-then-number_misses
returns-then-number_misses c =
    dangles-yes _ _ _ _ _ (such-here _ _ _ (omega arith) (sym c.number_misses.ensures ∙ c.if-number_misses.true) ∙ c.loop-c.invariant) (omega arith)

pub loop-c-preserved : goal.loop-c-preserved
loop-c-preserved c = such-further _ _ _ (omega arith) (sym c.number_misses.ensures ∙ c.if-number_misses.false) ∙ c.loop-c.invariant

pub returns : goal.returns
returns c = dangles-no _ _ _ _ _ (such-none _ _ _ (omega arith) (omega arith) ∙ c.loop-c.invariant) (omega arith)
