-- `heads::extension_code` meets its contract: the fields of the text are the list, which computes. Assumes nothing.
use Rattle.text.specs.Lines.{onto}
use Rattle.text.specs.Marks.{is_blank}
use Rattle.fields.specs.Fields.{ends_field, fields_of}
use Rattle.heads.specs.Heads.{extension_names}
use Rattle.heads.proofs.extension_code.Goals as goal

pub returns : goal.returns
unfolding onto is_blank ends_field fields_of extension_names
returns c = c.word_place.ensures
