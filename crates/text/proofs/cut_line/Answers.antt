-- `text::cut_line` meets its contract. Assumes nothing.
use Rattle.std.proofs.Common.{◌∙◌, sym, true, arith}
use Rattle.text.specs.Marks.{cut_at}
use Rattle.text.proofs.Places.{at-end}
use Rattle.text.proofs.Clean.{cut-end, cut-more}
use Rattle.text.proofs.cut_line.Goals as goal

pub loop-i-preserved : goal.loop-i-preserved
loop-i-preserved c = cut-more c.args.text.now c.loop-i.i (omega arith) (sym c.is_control.ensures ∙ c.if-is_control.false) ∙ c.loop-i.invariant

pub returns : goal.returns
returns c = at-end (cut_at c.args.text.now) (λ k. record { stop = k; next = k; clean = true }) (cut-end c.args.text.now) c.loop-i.invariant (omega arith) c.loop-i.auto.i-end c.max-end.ensures
