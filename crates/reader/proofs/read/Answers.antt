-- `reader::read` meets its contract. Assumes nothing.
use Rattle.reader.proofs.Judging.{read-accepted, read-refused}
use Rattle.output.proofs.Clear.{cleared-all}
use mathlib.Core.Path.{sym, ◌∙◌}
use lib.IntN.{pos}
use Rattle.reader.proofs.read.Goals as goal

pub returns-then-not-is_accepted : goal.returns-then-not-is_accepted
returns-then-not-is_accepted c = read-refused _ _ _ _ _ _ _ _ (c.clear_numbers.ensures ∙ cleared-all (pos 0) _) (c.clear_numbers-2.ensures ∙ cleared-all (pos 0) _) _ c.judge-answer.ensures (sym c.is_accepted.ensures ∙ c.if-not-is_accepted.true) _ _ (c.clear_numbers-then-not-is_accepted.ensures ∙ cleared-all (pos 0) _) (c.clear_numbers-then-not-is_accepted-2.ensures ∙ cleared-all (pos 0) _) c.judge-answer.auto.rows c.judge-answer.auto.samples c.clear_numbers.auto.table c.clear_numbers-2.auto.table

pub returns-else-not-is_accepted : goal.returns-else-not-is_accepted
returns-else-not-is_accepted c = read-accepted _ _ _ _ _ _ _ _ (c.clear_numbers.ensures ∙ cleared-all (pos 0) _) (c.clear_numbers-2.ensures ∙ cleared-all (pos 0) _) _ c.judge-answer.ensures (sym c.is_accepted.ensures ∙ c.if-not-is_accepted.false)
