-- `repeats::gives_again` meets its contract. Assumes nothing.
use Rattle.repeats.proofs.RowParts.{asks_nothing, asks-not, asks-row}
use Rattle.signed.proofs.Machine.{rd-at}
use mathlib.Core.Path.{sym, ◌∙◌}
use Rattle.repeats.proofs.gives_again.Goals as goal

pub returns-then-row_count-eq0 : goal.returns-then-row_count-eq0
returns-then-row_count-eq0 c = let r = asks_nothing c.args.did _ c.row_count.ensures c.args.most.now c.args.parts c.args.part c.args.file.now c.args.set.now c.if-row_count-eq0.true in record { value = r.0; set_after = r.1 }

pub returns-then-is_asked : goal.returns-then-is_asked
returns-then-is_asked c = let r = asks-row c.args.did _ c.row_count.ensures c.args.most.now c.args.parts c.args.part c.args.file.now c.args.set.now c.if-row_count-eq0.false _ _ (rd-at _ c.row_class-class.type_inv ∙ c.row_class-class.ensures) (rd-at _ c.number-id.type_inv ∙ c.number-id.ensures) _ c.key-number.ensures (sym c.is_asked.ensures ∙ c.if-is_asked.true) _ c.keep_row.ensures.value _ c.keep_row.ensures.set_after in record { value = r.0; set_after = r.1 }

pub returns : goal.returns
returns c = let r = asks-not c.args.did _ c.row_count.ensures c.args.most.now c.args.parts c.args.part c.args.file.now c.args.set.now c.if-row_count-eq0.false _ _ (rd-at _ c.row_class-class.type_inv ∙ c.row_class-class.ensures) (rd-at _ c.number-id.type_inv ∙ c.number-id.ensures) _ c.key-number.ensures (sym c.is_asked.ensures ∙ c.if-is_asked.false) in record { value = r.0; set_after = r.1 }
