-- `sections::section_no` meets its contract: the fields of the text are the list, which computes. Assumes nothing.
use native.Mathlib.Omega.{arith}
use Rattle.text.specs.Lines.{onto}
use Rattle.text.specs.Marks.{is_blank}
use Rattle.fields.specs.Fields.{ends_field, fields_of}
use Rattle.fields.proofs.Cut.{trim-at}
use Rattle.sections.specs.Sections.{section_names, section_no}
use Rattle.sections.proofs.Sections.{section-is}
use Rattle.sections.proofs.section_no.Goals as goal

pub slice_bounds-word_place-count : goal.slice_bounds-word_place-count
unfolding onto is_blank ends_field fields_of section_names section_no
slice_bounds-word_place-count c = (trim-at _ _ _ c.trim-part.ensures).ordered

pub slice_bounds-word_place-start : goal.slice_bounds-word_place-start
slice_bounds-word_place-start c = (trim-at _ _ _ c.trim-part.ensures).ordered

pub slice_bounds-word_place-end-2 : goal.slice_bounds-word_place-end-2
slice_bounds-word_place-end-2 c = (trim-at _ _ _ c.trim-part.ensures).within (omega arith)

pub returns : goal.returns
unfolding onto is_blank ends_field fields_of section_names
returns c = section-is _ _ _ c.word_place.ensures (trim-at _ _ _ c.trim-part.ensures).text
