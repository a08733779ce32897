use Rattle.std.proofs.Common.{sym, arith, ◌∙◌}
use Rattle.tables.proofs.Found.{such-start, such-here, such-further, such-none}
use Rattle.events.proofs.first_unfit.Goals as goal

pub loop-k-init : goal.loop-k-init
loop-k-init c = record { first = such-start _ _; known = c.requires }

pub is_unfit-requires : goal.is_unfit-requires
is_unfit-requires c = c.loop-k.invariant.known

pub returns-then-is_unfit : goal.returns-then-is_unfit
returns-then-is_unfit c = such-here _ _ _ c.loop-k-test.true (sym c.is_unfit.ensures.value ∙ c.if-is_unfit.true) ∙ c.loop-k.invariant.first

pub loop-k-preserved : goal.loop-k-preserved
loop-k-preserved c =
    record {
      first = such-further _ _ _ c.loop-k-test.true (sym c.is_unfit.ensures.value ∙ c.if-is_unfit.false) ∙ c.loop-k.invariant.first;
      known = c.is_unfit.ensures.known_2;
    }

pub returns : goal.returns
returns c = such-none _ _ _ (omega arith) c.loop-k-test.false ∙ c.loop-k.invariant.first
