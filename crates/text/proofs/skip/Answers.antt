-- `text::skip` meets its contract. Assumes nothing.
use Rattle.std.proofs.Common.{◌∙◌, sym, arith}
use Rattle.text.specs.Blanks.{skipped}
use Rattle.text.proofs.Places.{at-end, skip-none, skip_stop, skip-more}
use Rattle.text.proofs.skip.Goals as goal

pub returns-then-not-is_blank : goal.returns-then-not-is_blank
returns-then-not-is_blank c = skip_stop c.args.line.now c.loop-i.i (omega arith) (sym c.is_blank.ensures ∙ c.if-not-is_blank.true) ∙ c.loop-i.invariant

pub loop-i-preserved : goal.loop-i-preserved
loop-i-preserved c = skip-more c.args.line.now c.loop-i.i (omega arith) (sym c.is_blank.ensures ∙ c.if-not-is_blank.false) ∙ c.loop-i.invariant

pub returns : goal.returns
returns c = at-end (skipped c.args.line.now) (λ k. k) (skip-none c.args.line.now) c.loop-i.invariant (omega arith) c.loop-i.auto.i-end c.max.ensures
