-- `shape_text::run_end` meets its contract. Assumes nothing.
use Rattle.std.proofs.Common.{◌≡◌, ◌∙◌, sym, ap, length, arith}
use mir.Syntax.{w64}
use mir.Val.{of_z}
use Rattle.signed.proofs.Machine.{bits-inj}
use Rattle.shape_text.proofs.Runs.{running-one, running_more, running-other, running-end}
use Rattle.shape_text.proofs.run_end.Goals as goal

pub loop-j-init : goal.loop-j-init
loop-j-init c = running-one _ _ (omega arith)

pub returns-then-step-d : goal.returns-then-step-d
returns-then-step-d c =
    running-other c.loop-j.invariant (omega arith) (λ e. c.if-step-d.true (ap (of_z w64) (c.step.ensures ∙ e ∙ sym c.step-d.ensures)))

pub loop-j-preserved : goal.loop-j-preserved
loop-j-preserved c =
    running_more c.loop-j.invariant (omega arith)
    (sym c.step.ensures ∙ bits-inj (record { sfits = c.step.type_inv }) (record { sfits = c.step-d.type_inv }) c.if-step-d.false ∙ c.step-d.ensures)

pub returns : goal.returns
returns c =
    let r = c.loop-j.invariant in
    let e : length c.args.samples.now ≡ c.loop-j.j = omega (arith, r.inside) in
    rw e (running-end r (omega arith))
