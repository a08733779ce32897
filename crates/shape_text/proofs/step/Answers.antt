-- `shape_text::step` meets its contract. The samples are within ±100,000, so their difference is within ±200,000 and `minus` has a value for it. Assumes nothing.
use Rattle.std.proofs.Common.{◌∙◌, arith, ap, pos, unwrap_or}
use Rattle.signed.proofs.Machine.{rd-at}
use Rattle.shape_text.proofs.Samples.{step-later}
use Rattle.shape_text.proofs.step.Goals as goal

pub returns : goal.returns
returns c =
    rd-at _ (omega arith) ∙ c.unwrap_or.ensures
    ∙ ap (λ o. unwrap_or o (pos 0)) (
    step-later c.args.samples.now c.args.i c.requires.0 c.requires.1 c.if-i-eq0.false
    (rd-at _ (omega arith)) (rd-at _ (omega arith)) c.minus.ensures)
