-- `duplicates::word_again` meets its contract. Assumes nothing.
use lib.ListN.{length}
use Rattle.duplicates.proofs.Passed.{front-inside, names-inside}
use Rattle.duplicates.proofs.word_again.Goals as goal

pub count_words-keys-requires : goal.count_words-keys-requires
count_words-keys-requires c = let r = front-inside (length c.args.file.now) _ c.walk_start.ensures in record { at_in_bounds = r.0; lines_le_at = r.1 }

pub count_words-requires : goal.count_words-requires
count_words-requires c = let r = names-inside c.args.file.now _ c.requires c.seek_names-names.ensures in record { at_in_bounds = r.0; lines_le_at = r.1 }
