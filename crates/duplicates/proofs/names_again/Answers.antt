-- `duplicates::names_again` meets its contract. Assumes nothing.
use Rattle.duplicates.proofs.WordParts.{asks_nothing, asks-not, asks-word}
use mathlib.Core.Path.{sym, ◌∙◌}
use Rattle.duplicates.proofs.names_again.Goals as goal

pub returns-then-is_in : goal.returns-then-is_in
returns-then-is_in c = let r = asks-word c.args.n c.args.line.now c.args.did c.args.parts c.args.part c.args.file.now c.args.set.now _ (sym c.once_of.ensures ∙ c.in-Some.is) _ c.word_of-word.ensures _ c.number_of-number.ensures (sym c.is_in.ensures ∙ c.if-is_in.true) _ c.keep_word.ensures.value _ c.keep_word.ensures.set_after in record { value = r.0; set_after = r.1 }

pub returns-in-None : goal.returns-in-None
returns-in-None c = let r = asks_nothing c.args.n c.args.line.now c.args.did c.args.parts c.args.part c.args.file.now c.args.set.now (sym c.once_of.ensures ∙ c.in-None.is) in record { value = r.0; set_after = r.1 }

pub returns-else-is_in : goal.returns-else-is_in
returns-else-is_in c = let r = asks-not c.args.n c.args.line.now c.args.did c.args.parts c.args.part c.args.file.now c.args.set.now _ (sym c.once_of.ensures ∙ c.in-Some.is) _ c.word_of-word.ensures _ c.number_of-number.ensures (sym c.is_in.ensures ∙ c.if-is_in.false) in record { value = r.0; set_after = r.1 }
