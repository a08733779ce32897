-- `decimals::body` meets its contract: the mantissa, and what stands from its end on, joined. Assumes nothing.
use Rattle.std.proofs.Common.{◌≤◌, ◌∙◌, sym, length, arith}
use Rattle.decimals.proofs.Parts.{part-le}
use Rattle.decimals.proofs.Mantissas.{fit-counts, mantissa-inv}
use Rattle.decimals.proofs.Powers.{power-inv}
use Rattle.decimals.proofs.Bodies.{body-bad, body-value, body-none}
use Rattle.decimals.proofs.body.Goals as goal

pub returns-in_err-m : goal.returns-in_err-m
returns-in_err-m c = c.from_residual.ensures ∙ body-bad _ _ _ c.mantissa_in.ensures.0 c.in_err-m.was

pub slice_bounds-power_in-count : goal.slice_bounds-power_in-count
slice_bounds-power_in-count c =
    let m = mantissa-inv _ _ _ _ _ (sym c.mantissa_in.ensures.0 ∙ c.in_ok-m.was) in
    omega (arith, m.1, part-le c.args.s.now)

pub slice_bounds-power_in-start : goal.slice_bounds-power_in-start
slice_bounds-power_in-start c =
    let m = mantissa-inv _ _ _ _ _ (sym c.mantissa_in.ensures.0 ∙ c.in_ok-m.was) in
    let e : c.in_ok-m.m.stop ≤ length c.args.s.now = omega (arith, m.1, part-le c.args.s.now) in
    e

pub returns-in_err-n : goal.returns-in_err-n
returns-in_err-n c = c.from_residual-in_err-n.ensures ∙ body-none _ _ _ c.mantissa_in.ensures.0 _ _ _ _ _ c.in_ok-m.was c.power_in.ensures c.in_err-n.was

pub overflow_add-n : goal.overflow_add-n
overflow_add-n c =
    let f = fit-counts _ _ _ _ _ c.in_ok-m.was c.mantissa_in.ensures.1 in
    let p = power-inv _ _ (sym c.power_in.ensures ∙ c.in_ok-n.was) in
    omega (arith, f, p.least, p.most)

pub overflow_sub-n : goal.overflow_sub-n
overflow_sub-n c =
    let f = fit-counts _ _ _ _ _ c.in_ok-m.was c.mantissa_in.ensures.1 in
    let p = power-inv _ _ (sym c.power_in.ensures ∙ c.in_ok-n.was) in
    omega (arith, f, p.least, p.most)

pub pair-requires : goal.pair-requires
pair-requires c = (mantissa-inv _ _ _ _ _ (sym c.mantissa_in.ensures.0 ∙ c.in_ok-m.was)).0

pub returns : goal.returns
returns c = c.pair.ensures ∙ body-value _ _ _ c.mantissa_in.ensures.0 _ _ _ _ _ c.in_ok-m.was c.power_in.ensures _ c.in_ok-n.was
