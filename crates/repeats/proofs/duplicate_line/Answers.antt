-- `repeats::duplicate_line` meets its contract. Assumes nothing.
use mathlib.Core.Path.{◌∙◌}
use Rattle.repeats.proofs.Twice.{duplicate-first}
use Rattle.repeats.proofs.duplicate_line.Goals as goal

pub returns : goal.returns
returns c = c.earlier.ensures ∙ duplicate-first _ _ _ c.row_again-row.ensures c.word_again-word.ensures
