use Rattle.std.proofs.Common.{◌≡◌, ◌+◌, ◌-◌, arith, ap, ◌∙◌}
use Rattle.chains.specs.Chains.{exceeds_of}
use Rattle.chains.proofs.Following.{exceeds-all, exceeds-on, exceeds-not}
use Rattle.chains.proofs.exceeds.Goals as goal

pub returns-then-rows-at : goal.returns-then-rows-at
returns-then-rows-at c =
    exceeds-not _ _ _ _ (λ (z : c.args.left - c.loop-counted._counted ≡ 0). omega (arith, z)) _ c.next_entry-at.ensures c.if-rows-at.true ∙ c.loop-counted.invariant

pub loop-counted-preserved : goal.loop-counted-preserved
loop-counted-preserved c =
    let e : c.args.left - (c.loop-counted._counted + 1) ≡ c.args.left - c.loop-counted._counted - 1 = omega arith in
    ap (λ m. exceeds_of c.args.rows.numbers.now c.args.rows.n m c.next_entry-at.result) e ∙ exceeds-on _ _ _ _ (λ (z : c.args.left - c.loop-counted._counted ≡ 0). omega (arith, z)) _ c.next_entry-at.ensures c.if-rows-at.false ∙ c.loop-counted.invariant

pub returns : goal.returns
returns c = exceeds-all _ _ _ _ (omega arith) ∙ c.loop-counted.invariant
