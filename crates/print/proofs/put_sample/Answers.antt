-- `print::put_sample` meets its contract: no steps are 0, and others are written without their trailing zeros. Assumes nothing.
use Rattle.std.proofs.Common.{◌≡◌, ◌∙◌, ap, sym, nat_abs, arith}
use Rattle.signed.proofs.Machine.{below-zero, rd-is, rd-at, size-most}
use Rattle.decimals.proofs.Zeros.{strip-fewer}
use Rattle.decimals.specs.declared.Stripped.{Stripped}
use Rattle.print.proofs.Writing.{wrote_nothing, wrote-sample}
use Rattle.print.proofs.put_sample.Goals as goal

pub returns-then-size-eq0 : goal.returns-then-size-eq0
returns-then-size-eq0 c =
    let sized : c.unsigned_abs-size.result ≡ nat_abs c.args.steps = c.unsigned_abs-size.ensures.value ∙ ap nat_abs (rd-is c.ranges.steps) in
    wrote_nothing _ (sym sized ∙ c.if-size-eq0.true) c.put_byte.ensures

pub sample_power-requires : goal.sample_power-requires
sample_power-requires c =
    let sized : c.unsigned_abs-size.result ≡ nat_abs c.args.steps = c.unsigned_abs-size.ensures.value ∙ ap nat_abs (rd-is c.ranges.steps) in
    let n = c.unsigned_abs-size.result in
    omega (arith, strip-fewer n 20 (omega arith) (omega (arith, sized, size-most c.args.steps c.ranges.steps.sfits)), ap (λ (t : Stripped). t.zeros) c.strip-v.ensures)

pub returns : goal.returns
returns c =
    let sized : c.unsigned_abs-size.result ≡ nat_abs c.args.steps = c.unsigned_abs-size.ensures.value ∙ ap nat_abs (rd-is c.ranges.steps) in
    wrote-sample _ _ _ _ _ sized c.if-size-eq0.false (below-zero c.ranges.steps) c.strip-v.ensures (rd-at _ c.sample_power.type_inv ∙ c.sample_power.ensures) c.put_scaled.ensures
