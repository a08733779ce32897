-- `heads::label_place` meets its contract: the fields of the text are the list, which computes. Assumes nothing.
use Rattle.text.specs.Lines.{onto}
use Rattle.text.specs.Marks.{is_blank}
use Rattle.fields.specs.Fields.{ends_field, fields_of}
use Rattle.heads.specs.Heads.{label_names}
use Rattle.heads.proofs.label_place.Goals as goal

pub returns : goal.returns
unfolding onto is_blank ends_field fields_of label_names
returns c = c.word_place.ensures
