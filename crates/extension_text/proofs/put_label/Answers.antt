-- `extension_text::put_label` meets its contract. Assumes nothing.
use lib.IntN.{nat_abs}
use mathlib.Core.Path.{ap, ◌∙◌}
use Rattle.heads.specs.Heads.{label_names}
use Rattle.fields.specs.Fields.{ends_field, fields_of}
use Rattle.text.specs.Marks.{is_blank}
use Rattle.text.specs.Lines.{onto}
use Rattle.signed.proofs.Machine.{rd-at}
use Rattle.extension_text.proofs.Listing.{label-put}
use Rattle.extension_text.proofs.put_label.Goals as goal

pub returns : goal.returns
unfolding onto is_blank ends_field fields_of label_names
returns c = let y = c.number-3 in
    let x = c.number-2 in
    let w = c.number in
    label-put _ _ _ _ _ (rd-at _ x.type_inv ∙ x.ensures) (rd-at _ y.type_inv ∙ y.ensures) (c.unsigned_abs-label.ensures.value ∙ ap nat_abs (rd-at _ w.type_inv ∙ w.ensures)) c.put_signed-id.ensures c.put_next_number-value.ensures c.put_next_word-end.ensures c.put_byte.ensures
