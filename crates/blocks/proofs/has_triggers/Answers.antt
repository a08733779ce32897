use Rattle.std.proofs.Common.{◌≡◌, true, false, arith, ◌∙◌}
use Rattle.signed.specs.Signed.{same_z}
use Rattle.tables.proofs.Found.{such-start, such-here, such-further, such-none}
use Rattle.blocks.specs.Inside.{is_trigger}
use Rattle.blocks.proofs.Timeless.{triggers-yes, triggers-no}
use Rattle.blocks.proofs.has_triggers.Goals as goal

pub loop-k-init : goal.loop-k-init
loop-k-init c = such-start _ _

pub returns-then-number-eq-TRIGGER : goal.returns-then-number-eq-TRIGGER
unfolding is_trigger same_z
returns-then-number-eq-TRIGGER c =
    let here : is_trigger c.args.rows.now c.loop-k.k ≡ true = grind arith in
    triggers-yes _ _ _ (such-here _ _ _ c.loop-k-test.true here ∙ c.loop-k.invariant) c.loop-k-test.true

pub loop-k-preserved : goal.loop-k-preserved
unfolding is_trigger same_z
loop-k-preserved c =
    let not-here : is_trigger c.args.rows.now c.loop-k.k ≡ false = grind arith in
    such-further _ _ _ c.loop-k-test.true not-here ∙ c.loop-k.invariant

pub returns : goal.returns
returns c = triggers-no _ _ (such-none _ _ _ (omega arith) c.loop-k-test.false ∙ c.loop-k.invariant)
