-- `duplicates::first_of_parts` meets its contract. The loop's invariant: the first line of the parts that are passed (`PartsWalk`). Assumes nothing.
use Rattle.duplicates.proofs.Parts.{PartsWalk}
use Rattle.duplicates.specs.Inside.{word_line, no_word, same_word, word_number, any_word}
use Rattle.duplicates.specs.Words.{words_of}
use Rattle.duplicates.proofs.first_of_parts.Given as goal

abbrev pub invariant-loop-part : goal.invariant-loop-part
invariant-loop-part l = PartsWalk word_line no_word same_word word_number any_word (words_of l.file) l.parts l.part l.first
