-- `extension_text::put_extension` meets its contract. Assumes nothing.
use lib.IntN.{nat_abs}
use mathlib.Core.Path.{ap, ◌∙◌}
use Rattle.heads.specs.Heads.{extension_names, extension_word}
use Rattle.fields.specs.Fields.{ends_field, fields_of}
use Rattle.text.specs.Marks.{is_blank}
use Rattle.text.specs.Lines.{onto}
use Rattle.signed.proofs.Machine.{rd-at}
use Rattle.extension_text.proofs.Listing.{extension-put}
use Rattle.extension_text.proofs.put_extension.Goals as goal

pub returns : goal.returns
unfolding onto is_blank ends_field fields_of extension_names extension_word
returns c = let y = c.number-2 in
    let x = c.number in
    extension-put _ _ _ _ (c.unsigned_abs-code.ensures.value ∙ ap nat_abs (rd-at _ x.type_inv ∙ x.ensures)) (rd-at _ y.type_inv ∙ y.ensures) c.put_bytes-word.ensures c.put_next_word-name.ensures c.put_next_number-end.ensures c.put_byte.ensures
