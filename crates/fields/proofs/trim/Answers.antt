-- `fields::trim` meets its contract. Assumes nothing.
use Rattle.std.proofs.Common.{◌∙◌, sym, arith}
use Rattle.fields.proofs.Places.{body_end_lem, body-byte, body-blank, trim-is}
use Rattle.fields.proofs.trim.Goals.{then-not-is_blank, else-not-is_blank}
use Rattle.fields.proofs.trim.Goals as goal

pub loop-i-preserved : goal.loop-i-preserved
loop-i-preserved c =
    let t = c.args.line.now in
    let b = c.is_blank.ensures in
    elim c.if-not-is_blank.branch [
      | then-not-is_blank w ↦ rw w.stop-is (body-byte t c.loop-i.stop c.loop-i.i (omega arith) (sym b ∙ w.if-not-is_blank.true) ∙ c.loop-i.invariant)
      | else-not-is_blank w ↦ rw w.stop-is (body-blank t c.loop-i.stop c.loop-i.i (omega arith) (sym b ∙ w.if-not-is_blank.false) ∙ c.loop-i.invariant)
    ]

pub returns : goal.returns
returns c =
    let t = c.args.line.now in
    trim-is t _ _ _ c.skip-start.ensures (body_end_lem t c.loop-i.stop c.loop-i.i (omega arith) ∙ c.loop-i.invariant)
