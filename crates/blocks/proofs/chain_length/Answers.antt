use Rattle.std.proofs.Common.{ℕ, ◌≡◌, ◌+◌, ◌-◌, arith, ap, ◌∙◌, max}
use Rattle.unit.specs.Time.{capped}
use Rattle.blocks.specs.Blocks.{chain_length}
use Rattle.blocks.proofs.Lasting.{max-zero, walk-past, walk-on, walk-out}
use Rattle.blocks.proofs.chain_length.Goals as goal

pub loop-counted-init : goal.loop-counted-init
loop-counted-init c =
    let e : c.args.left - 0 ≡ c.args.left = omega arith in
    let whole : ℕ → ℕ = λ m. capped (chain_length c.args.rasters c.args.rows.numbers.now c.args.rows.n c.args.samples.now m c.args.k) in
    ap (λ m. max 0 (whole m)) e ∙ max-zero (whole c.args.left)

pub returns-then-rows-at : goal.returns-then-rows-at
returns-then-rows-at c =
    walk-past _ _ _ _ _ _ (λ (z : c.args.left - c.loop-counted._counted ≡ 0). omega (arith, z)) _ _ c.if-rows-at.true c.loop-counted.invariant

pub loop-counted-preserved : goal.loop-counted-preserved
loop-counted-preserved c =
    let e : c.args.left - (c.loop-counted._counted + 1) ≡ c.args.left - c.loop-counted._counted - 1 = omega arith in
    ap (λ m. max c.longer-longest.result.0 (capped (chain_length c.args.rasters c.args.rows.numbers.now c.args.rows.n c.args.samples.now m c.next_entry-at.result))) e
    ∙ walk-on _ _ _ _ _ _ (λ (z : c.args.left - c.loop-counted._counted ≡ 0). omega (arith, z)) c.if-rows-at.false _ _ _ _ _ c.entry_length.ensures c.next_entry-at.ensures c.longer-longest.ensures c.loop-counted.invariant

pub returns : goal.returns
returns c = walk-out _ _ _ _ _ _ _ _ (omega arith) c.loop-counted.invariant
