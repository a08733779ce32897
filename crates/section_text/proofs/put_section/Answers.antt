-- `section_text::put_section` meets its contract. Assumes nothing.
use Rattle.std.proofs.Common.{◌∙◌, arith}
use Rattle.output.proofs.Over.{put-none}
use Rattle.section_text.proofs.Putting.{form-some, form-none}
use Rattle.signed.proofs.Machine.{rd-at}
use Rattle.section_text.proofs.put_section.Goals as goal

pub returns-then-has_kind : goal.returns-then-has_kind
returns-then-has_kind c = let f = c.form_number in
    form-some _ _ _ _ _ _ _ (rd-at _ f.type_inv ∙ f.ensures) c.has_kind.ensures c.if-has_kind.true c.put_head-body.ensures c.put_rows-end.ensures c.put_byte.ensures

pub returns : goal.returns
returns c = let f = c.form_number in
    rw (← form-none _ _ _ _ _ _ _ (rd-at _ f.type_inv ∙ f.ensures) c.has_kind.ensures c.if-has_kind.false) (put-none (omega arith) (omega arith))
