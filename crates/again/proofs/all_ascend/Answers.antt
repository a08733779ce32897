use Rattle.std.proofs.Common.{◌≡◌, pos, true, false, get_or, arith}
use Rattle.std.proofs.lemmas.Grind.{common_steps}
use Rattle.signed.specs.Signed.{same_z, largest}
use Rattle.again.proofs.Noting.{ascend-short, ascend-start, ascend-not, ascend-turn, ascend-end}
use Rattle.again.proofs.all_ascend.Goals as goal

pub returns-then-most-lt13 : goal.returns-then-most-lt13
returns-then-most-lt13 c = ascend-short _ c.if-most-lt13.true

pub loop-z-init : goal.loop-z-init
loop-z-init c = ascend-start _ c.if-most-lt13.false

pub returns-then-z-eq-ENDED : goal.returns-then-z-eq-ENDED
unfolding same_z
returns-then-z-eq-ENDED c =
    let ended : same_z (get_or c.args.most.now c.loop-z.z-index (pos 0)) (pos largest) ≡ true = grind (arith, common_steps) in
    ascend-not _ c.if-most-lt13.false _ c.loop-z.invariant c.loop-z-test.true ended

pub loop-z-preserved : goal.loop-z-preserved
unfolding same_z
loop-z-preserved c =
    let going : same_z (get_or c.args.most.now c.loop-z.z-index (pos 0)) (pos largest) ≡ false = grind (arith, common_steps) in
    ascend-turn _ c.if-most-lt13.false _ c.loop-z.invariant c.loop-z-test.true going

pub returns : goal.returns
returns c = ascend-end _ c.if-most-lt13.false _ c.loop-z.invariant c.loop-z-test.false
