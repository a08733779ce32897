-- `duplicates::first_duplicate` meets its contract. Assumes nothing.
use mathlib.Core.Path.{◌∙◌}
use lib.ListN.{length}
use Rattle.duplicates.proofs.Lines.{duplicate-row, duplicate-word}
use Rattle.duplicates.proofs.Passed.{front-inside}
use Rattle.duplicates.proofs.first_duplicate.Goals as goal

pub count_words-keys-requires : goal.count_words-keys-requires
count_words-keys-requires c = let r = front-inside (length c.args.file.now) _ c.walk_start.ensures in record { at_in_bounds = r.0; lines_le_at = r.1 }

pub returns-then-k-n : goal.returns-then-k-n
returns-then-k-n c = c.earlier.ensures ∙ duplicate-row _ _ _ _ _ c.first_again-k.ensures c.first_of_parts-word.ensures c.if-k-n.true _ c.row_line.ensures

pub returns : goal.returns
returns c = duplicate-word _ _ _ _ _ c.first_again-k.ensures c.first_of_parts-word.ensures c.if-k-n.false
