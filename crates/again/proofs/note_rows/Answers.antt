use Rattle.std.proofs.Common.{arith, ◌∙◌}
use Rattle.signed.proofs.Machine.{rd-at}
use Rattle.again.proofs.Noting.{noted-next}
use Rattle.again.proofs.note_rows.Goals as goal

pub loop-k-preserved : goal.loop-k-preserved
loop-k-preserved c =
    let class = rd-at _ c.row_class.type_inv ∙ c.row_class.ensures in
    let id = rd-at _ c.number.type_inv ∙ c.number.ensures in
    (omega arith, (c.note.auto.most ∙ c.loop-k.invariant.1.0, noted-next _ _ _ _ c.loop-k.invariant.1.1 _ _ c.note.ensures class id))
