use mathlib.Core.Path.{refl, sym, ◌∙◌}
use native.Mathlib.Omega.{arith}
use Rattle.file.proofs.Stepping.{from-front, cut-there, gave-there, nearer, carried}
use Rattle.questions.proofs.Blocks.{BlockWalk, block_start, block-fault, block-hit, block-turn, block-end}
use Rattle.questions.proofs.has_block.Goals as goal

pub loop-did-init : goal.loop-did-init
loop-did-init c = from-front (BlockWalk c.args.file.now) _ c.walk_start-walk.ensures (block_start _ _ refl)

pub step-requires : goal.step-requires
step-requires c = omega (arith, c.loop-did.invariant.within.number)

pub returns-then-is_fault : goal.returns-then-is_fault
returns-then-is_fault c =
    let s = c.in-Some.ensures in
    block-fault _ _ _ _ c.loop-did.invariant _ (cut-there s) _ (gave-there s) (sym c.is_fault.ensures ∙ c.if-is_fault.true)

pub returns-then-gives_block : goal.returns-then-gives_block
returns-then-gives_block c =
    let s = c.in-Some.ensures in
    block-hit _ _ _ _ c.loop-did.invariant _ (cut-there s) _ (gave-there s) (sym c.is_fault.ensures ∙ c.if-is_fault.false) _ c.gives_block.ensures c.if-gives_block.true

pub loop-did-smaller : goal.loop-did-smaller
loop-did-smaller c = nearer c.in-Some.ensures

pub loop-did-preserved : goal.loop-did-preserved
loop-did-preserved c =
    let s = c.in-Some.ensures in
    carried s (BlockWalk c.args.file.now)
    (block-turn _ _ _ _ c.loop-did.invariant _ (cut-there s) _ (gave-there s) (sym c.is_fault.ensures ∙ c.if-is_fault.false) _ c.gives_block.ensures c.if-gives_block.false)

pub returns : goal.returns
returns c = block-end _ _ _ _ c.loop-did.invariant c.in_default.ensures.0
