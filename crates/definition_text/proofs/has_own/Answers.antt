use mathlib.Core.Path.{refl, sym, ◌∙◌}
use native.Mathlib.Omega.{arith}
use Rattle.file.proofs.Stepping.{from-front, cut-there, gave-there, nearer, carried}
use Rattle.definition_text.proofs.Putting.{NoneYet, none-start, none_end, none-fault, none-met, none-turn}
use Rattle.definition_text.proofs.has_own.Goals as goal

pub loop-did-init : goal.loop-did-init
loop-did-init c = from-front (NoneYet c.args.file.now) _ c.walk_start-walk.ensures (none-start _ _ refl)

pub step-requires : goal.step-requires
step-requires c = omega (arith, c.loop-did.invariant.within.number)

pub returns-then-is_fault : goal.returns-then-is_fault
returns-then-is_fault c =
    let s = c.in-Some.ensures in
    none-fault c.loop-did.invariant (cut-there s) (gave-there s) (sym c.is_fault.ensures ∙ c.if-is_fault.true)

pub returns-then-is_defined : goal.returns-then-is_defined
returns-then-is_defined c =
    let s = c.in-Some.ensures in
    none-met c.loop-did.invariant (cut-there s) (gave-there s) (sym c.is_fault.ensures ∙ c.if-is_fault.false) (sym c.is_defined.ensures ∙ c.if-is_defined.true)

pub loop-did-smaller : goal.loop-did-smaller
loop-did-smaller c = nearer c.in-Some.ensures

pub loop-did-preserved : goal.loop-did-preserved
loop-did-preserved c =
    let s = c.in-Some.ensures in
    carried s (NoneYet c.args.file.now)
    (none-turn c.loop-did.invariant (cut-there s) (gave-there s) (sym c.is_fault.ensures ∙ c.if-is_fault.false) (sym c.is_defined.ensures ∙ c.if-is_defined.false))

pub returns : goal.returns
returns c = none_end c.loop-did.invariant c.in_default.ensures.0
