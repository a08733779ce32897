-- `repeats::first_of_parts` meets its contract. The loop's invariant: the first line of the parts that are passed (`PartsWalk`). Assumes nothing.
use Rattle.repeats.specs.Inside.{no_row, same_row, row_number, row_open}
use Rattle.duplicates.proofs.Parts.{PartsWalk}
use Rattle.duplicates.specs.Inside.{row_line}
use Rattle.file.specs.Rows.{rows_of}
use Rattle.repeats.proofs.first_of_parts.Given as goal

abbrev pub invariant-loop-part : goal.invariant-loop-part
invariant-loop-part l = PartsWalk row_line no_row same_row row_number (row_open l.most) (rows_of l.file) l.parts l.part l.first
