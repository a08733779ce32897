-- `fields::next_field` meets its contract. Assumes nothing.
use Rattle.std.proofs.Common.{◌∙◌, sym, arith}
use Rattle.text.proofs.Places.{at-end}
use Rattle.fields.proofs.Places.{word_end, word_none, word-stop, word_more, field_is}
use Rattle.fields.proofs.next_field.Goals as goal

pub returns-then-is_blank : goal.returns-then-is_blank
returns-then-is_blank c =
    let t = c.args.line.now in
    field_is t _ _ _ c.skip-start.ensures (word-stop t c.loop-stop.stop (omega arith) (sym c.is_blank.ensures ∙ c.if-is_blank.true) ∙ c.loop-stop.invariant)

pub loop-stop-preserved : goal.loop-stop-preserved
loop-stop-preserved c = word_more c.args.line.now c.loop-stop.stop (omega arith) (sym c.is_blank.ensures ∙ c.if-is_blank.false) ∙ c.loop-stop.invariant

pub returns : goal.returns
returns c =
    let t = c.args.line.now in
    field_is t _ _ _ c.skip-start.ensures (at-end (word_end t) (λ k. k) (word_none t) c.loop-stop.invariant (omega arith) c.loop-stop.auto.stop-end c.max.ensures)
