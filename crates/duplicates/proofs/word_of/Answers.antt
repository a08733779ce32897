-- `duplicates::word_of` meets its contract. Assumes nothing.
use Rattle.grammar.specs.Definitions.{key_of}
use Rattle.duplicates.specs.Words.{word_of}
use Rattle.duplicates.proofs.word_of.Goals as goal

pub returns-in-Key : goal.returns-in-Key
unfolding word_of key_of
returns-in-Key c = rw c.in-Key.is c.field.ensures

pub returns-in-Name : goal.returns-in-Name
unfolding word_of key_of
returns-in-Name c = rw c.in-Name.is c.field-in-Name.ensures
